-- What is held, by the fields.
use Rattle.std.proofs.Common.{◌≡◌, ℕ, List, [], ◌++◌, length, take, Option, Some, None, sym, ap, ◌∙◌, arith, inl, inr, IfSome}
use Rattle.std.proofs.lemmas.Bool.{cases_lt}
use Rattle.std.proofs.lemmas.List.{append-nil, length-take-le, take_all}
use Rattle.rds_wire.specs.declared.header.Header.{Header}
use Rattle.rds_wire.specs.declared.frame.Frame.{Frame}
use Rattle.rds_wire.specs.Bytes.{header_bytes, IsHeader}
use Rattle.rds_frame.specs.Splitting.{IsFrame, IsPartial}
use Rattle.rds_frame.specs.Holding.{SplitterView, HoldsAtMostOneFrame, refusing}
use Rattle.rds_frame.specs.Fields.{IsSplitter}

-- what a splitter with these fields holds
abbrev pub held_of : List ℕ → ℕ → List ℕ → Option Frame → Option Header → SplitterView
held_of head came body waiting refused = record { rest = take came head ++ body; waiting = waiting; refused = refused }

frame-alone : (head : List ℕ) (came : ℕ) (body : List ℕ) (waiting : Option Frame) (refused : Option Header)
    → IsSplitter head came body waiting refused
    → IfSome waiting (λ f. IsFrame f × (held_of head came body waiting refused ≡ record { rest = []; waiting = Some f; refused = None }))
frame-alone head came body None refused keeps = tt
frame-alone head came body (Some f) refused keeps =
    let start : came ≡ 0 = keeps.frame.1 in
    let empty : body ≡ [] = keeps.early (omega arith) in
    let still : refused ≡ None = keeps.frame.2 in
    (keeps.frame.0, (λ i. record { rest = take (start i) head ++ empty i; waiting = Some f; refused = still i }))

header-alone : (head : List ℕ) (came : ℕ) (body : List ℕ) (waiting : Option Frame) (refused : Option Header)
    → IsSplitter head came body waiting refused
    → IfSome refused (λ h. IsHeader h × (held_of head came body waiting refused ≡ refusing h))
header-alone head came body waiting None keeps = tt
header-alone head came body (Some f) (Some h) keeps = let still : Some h ≡ None = keeps.frame.2 in cc
header-alone head came body None (Some h) keeps =
    let full : came ≡ 48 = keeps.header.2 in
    let empty : body ≡ [] = keeps.header.3 in
    let same : take 48 head ++ [] ≡ header_bytes h =
    append-nil (take 48 head) ∙ take_all 48 head (omega (arith, keeps.len)) ∙ sym keeps.header.1 in (
      keeps.header.0,
      (λ i. record { rest = take (full i) head ++ empty i; waiting = None; refused = Some h })
          ∙ (λ i. record { rest = same i; waiting = None; refused = Some h }),
    )

rest-partial : (head : List ℕ) (came : ℕ) (body : List ℕ) (waiting : Option Frame) (refused : Option Header)
    → IsSplitter head came body waiting refused → refused ≡ None → IsPartial (take came head ++ body)
rest-partial head came body waiting refused keeps still = elim (cases_lt came 48) [
  | inl short ↦
      let empty : body ≡ [] = keeps.early short in
      let rest : take came head ++ body ≡ take came head = ap (λ (b : List ℕ). take came head ++ b) empty ∙ append-nil (take came head) in
      let len : length (take came head) ≡ came = length-take-le came head (omega (arith, keeps.len)) in
      inl (omega (arith, ap length rest))
  | inr full ↦
      let at : came ≡ 48 = omega (arith, keeps.came_fits) in
      let announces = keeps.whole at still in
      let all : take came head ≡ head = take_all came head (omega (arith, keeps.len)) in
      inr (record {
        header = announces.header;
        body = body;
        fits = announces.fits;
        bytes_are = (λ i. all i ++ body) ∙ (λ i. sym announces.bytes i ++ body);
        short = announces.short;
      })
]

pub IsHeld-fields : (head : List ℕ) (came : ℕ) (body : List ℕ) (waiting : Option Frame) (refused : Option Header)
    → IsSplitter head came body waiting refused → HoldsAtMostOneFrame (held_of head came body waiting refused)
IsHeld-fields head came body waiting refused keeps = record {
  waiting = frame-alone head came body waiting refused keeps;
  refused = header-alone head came body waiting refused keeps;
  partial = λ none still. rest-partial head came body waiting refused keeps still;
}
