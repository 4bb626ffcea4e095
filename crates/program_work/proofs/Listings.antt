-- From what a listing writes to what the work on a graph comes to.
use Rattle.std.proofs.Common.{ℕ, List, [], Option, Some, None, Result, Ok, Err, OnErr, OnOk, refl, inl, inr}
use Rattle.std.proofs.KnownBytes.{Appends-nil}
use Rattle.command_line.specs.declared.command.Graph.{Graph}
use Rattle.cg_listing.specs.Listing as listed
use Rattle.cg_sets.specs.declared.edges.Edge.{Edge}
use Rattle.go_sources.specs.declared.sources.SourceFile.{SourceFile}
use Rattle.go_tree.specs.declared.program.Program.{Program}
use Rattle.program_work.specs.declared.stop.Stop.{Stop}
use Rattle.program_work.specs.Graphs.{AreAsked}
use Rattle.program_work.specs.Working.{IsListing, Lists, ListsFront}
use Rattle.program_work.proofs.Sorting.{edges_listed}

-- the graph that is asked has a listing
pub some_listing : (files : List SourceFile) (program : Program) (graph : Option Graph) (edges : Option (List Edge)) → AreAsked graph program edges → (text : List ℕ) × IsListing files program graph text
some_listing files program None None are = ([], refl)
some_listing files program None (Some edges) are = absurd are
some_listing files program (Some graph) None are = absurd are
some_listing files program (Some graph) (Some edges) are =
    let l = edges_listed files program edges in
    (l.0, record { edges = edges; are = are; is = l.1 })

-- no graph is asked
pub none_listed : (files : List SourceFile) (program : Program) (graph : Option Graph) (told : Option (List ℕ)) → AreAsked graph program None → Lists files program graph told told
none_listed files program None told are = record { text = []; is_listing = refl; appends = Appends-nil told }
none_listed files program (Some graph) told are = absurd are

-- the listing of edges is one of the graph that is asked
pub edges_list : {A : Type 0} (files : List SourceFile) (program : Program) (graph : Option Graph) (edges : List Edge) (result : Result A Stop) (old new : Option (List ℕ)) → AreAsked graph program (Some edges) → OnOk result (listed.Writes files program edges old new) → OnOk result (Lists files program graph old new)
edges_list files program None edges result old new are w = absurd are
edges_list files program (Some graph) edges (Ok done) old new are w = record { text = w.text; is_listing = record { edges = edges; are = are; is = w.listing }; appends = w.appends }
edges_list files program (Some graph) edges (Err stop) old new are w = tt

pub edges_front : {A : Type 0} (files : List SourceFile) (program : Program) (graph : Option Graph) (edges : List Edge) (result : Result A Stop) (old new : Option (List ℕ)) → AreAsked graph program (Some edges) → OnErr result (listed.WritesFront files program edges old new) → OnErr result (ListsFront files program graph old new)
edges_front files program None edges result old new are w = absurd are
edges_front files program (Some graph) edges (Ok done) old new are w = tt
edges_front files program (Some graph) edges (Err stop) old new are (inl w) = inl (record { text = w.text; is_listing = record { edges = edges; are = are; is = w.listing }; appends = w.appends })
edges_front files program (Some graph) edges (Err stop) old new are (inr nothing) = inr nothing
