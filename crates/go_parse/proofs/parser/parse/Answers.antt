use Rattle.std.proofs.Common.{List, length, subst}
use Rattle.std.specs.Prelude.{Result}
use Rattle.go_ast.specs.declared.token.Token.{Token}
use Rattle.go_grammar.specs.FileReading.{parsers}
use Rattle.go_grammar.specs.PartReading.{file_by_parts}
use Rattle.go_grammar.specs.View.{view_file}
use Rattle.go_parse.specs.FileParts.{GivesParts}
use Rattle.parse_answer.specs.Refusal.{IsParsed, IsWithin}
use Rattle.go_parse.proofs.FileParts.{parsed_by_parts, within_by_parts}
use Rattle.go_parse.proofs.parser.parse.Goals as goal

parsed : (c : goal.After-file_with_roles) → IsParsed c.args.tokens.now c.file_with_roles.result
parsed c =
    parsed_by_parts c.args.tokens.now c.file_with_roles.result
    (subst (λ (ts : List Token). GivesParts (length ts) view_file c.file_with_roles.result (file_by_parts (parsers (length ts)) ts)) c.as_slice-in-None.ensures c.file_with_roles.ensures.read)
    c.file_with_roles.ensures.roles

pub returns-in-None-clause-parsed : goal.returns-in-None-clause-parsed
returns-in-None-clause-parsed c = parsed c

pub returns-in-None-clause-within : goal.returns-in-None-clause-within
returns-in-None-clause-within c = within_by_parts c.args.tokens.now c.file_with_roles.result (parsed c)
