use Rattle.std.proofs.Common.{rules, ◌≡◌, filter, string_bytes}
use Rattle.std.proofs.lemmas.Fn.{filter_same}
use Rattle.go_finding.specs.Listing.{is_go_file}
use Rattle.go_finding.proofs.listing.go_file_names.Goals as goal

pub returns-clause-all : goal.returns-clause-all
returns-clause-all c =
    let kept : c.retain.new.self.items ≡ filter (λ name. is_go_file (string_bytes name)) c.args.names.items = filter_same _ _ _ (λ x b f' k. search rules) _ _ c.retain.ensures.filtered in
    rw (← kept) c.in_ok-sort.ensures.permutation
