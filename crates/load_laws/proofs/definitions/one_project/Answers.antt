use Rattle.load_laws.proofs.Directories.{one_module}
use Rattle.load_laws.proofs.OneProject.{one_project, one_bad_module, bad_or_project, one_origin}
use Rattle.load_laws.proofs.definitions.one_project.Goals as goal

pub returns-clause-governs : goal.returns-clause-governs
returns-clause-governs c = one_module

pub returns-clause-project : goal.returns-clause-project
returns-clause-project c = one_project

pub returns-clause-bad : goal.returns-clause-bad
returns-clause-bad c = one_bad_module

pub returns-clause-not_both : goal.returns-clause-not_both
returns-clause-not_both c = bad_or_project

pub returns-clause-origin : goal.returns-clause-origin
returns-clause-origin c = one_origin
