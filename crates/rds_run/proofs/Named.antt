-- Words that begin with the name of a command.
use Rattle.std.proofs.Common.{◌≡◌, ◌↔◌, IsTrue, IfOk, ℕ, List, Bool, true, eqb, map, Some, Result, Ok, Err, option_map, slice_get, sym, ap, ◌∙◌, string_bytes, String}
use Rattle.std.specs.Global.{Global}
use Rattle.std.specs.Cmp.Lexicographic.{pointwise}
use Rattle.std.proofs.lemmas.Slice.Eq.{bytes_eq-Decides}
use Rattle.std.proofs.lemmas.Option.{slice_get-map}
use Rattle.rds_wire.specs.declared.memory.Memory.{Memory}

-- where the first word reads so, the texts of the words begin with that name
pub named : (name : List ℕ) (words : List (String Global)) (w : String Global) (text : List ℕ) (r : Bool) → r ≡ pointwise eqb text name →
    r ≡ true → text ≡ string_bytes w → Some w ≡ slice_get words 0 → slice_get (map string_bytes words) 0 ≡ Some name
named name words w text r test equal reads is =
    let same : text ≡ name = (bytes_eq-Decides text name).0 (sym test ∙ equal) in
    slice_get-map string_bytes words 0 ∙ (ap (option_map string_bytes) (sym is) ∙ ap Some (sym reads ∙ same))

-- a test that decides B decides both, where A holds
pub with_name : (A B : Type 0) (r : Result Bool Memory) → A → IfOk r (λ plays. IsTrue plays ↔ B) → IfOk r (λ plays. IsTrue plays ↔ (A × B))
with_name A B (Ok plays) a decides = (λ t. (a, decides.0 t), λ both. decides.1 both.1)
with_name A B (Err e) a decides = decides
