use Rattle.std.proofs.Common.{ap, sym, ◌∙◌}
use Rattle.go_value.specs.Values.{value_of}
use Rattle.go_maps.specs.Entries.{entries_of, place_of_code, with_pair_at}
use Rattle.go_maps.proofs.Slots.{on_ok}
use Rattle.go_maps.proofs.entries.MapEntries.put.Goals as goal

pub returns-in-Some : goal.returns-in-Some
returns-in-Some c =
    let entries = entries_of c.args.self.now in
    record {
      ok = c.replace.ensures ∙ ap (λ o. with_pair_at o (value_of c.args.key) (value_of c.args.value) entries) (c.in-Some.ensures ∙ ap (λ code. place_of_code code entries) c.requires);
      err = tt;
    }

pub returns-in-None : goal.returns-in-None
returns-in-None c =
    let entries = entries_of c.args.self.now in
    record {
      ok = on_ok c.add.result c.add.ensures.ok (λ same. same ∙ ap (λ o. with_pair_at o (value_of c.args.key) (value_of c.args.value) entries) (c.in-None.ensures ∙ ap (λ code. place_of_code code entries) c.requires));
      err = c.add.ensures.err;
    }

pub add-requires : goal.add-requires
add-requires c = record { code = c.requires; absent = sym c.in-None.ensures }
