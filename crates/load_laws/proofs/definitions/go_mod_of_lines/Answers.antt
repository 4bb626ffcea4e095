use Rattle.load_laws.proofs.ModAnswers.{read_lines, refused_lines}
use Rattle.load_laws.proofs.definitions.go_mod_of_lines.Goals as goal

pub returns-clause-read : goal.returns-clause-read
returns-clause-read c = read_lines

pub returns-clause-refused : goal.returns-clause-refused
returns-clause-refused c = refused_lines
