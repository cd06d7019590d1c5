-- A datagram stands in the journal at its place.
use Rattle.std.proofs.Common.{◌≡◌, inl, inr, ℕ, zero, suc, ◌==◌, Some, List, [], ◌∷◌, ◌++◌, length, reverse, refl, sym, ◌∙◌, ap, subst}
use Rattle.std.specs.Prelude.{slice_get}
use Rattle.std.proofs.lemmas.Bool.{cases_Bool, cond-true, cond-false}
use Rattle.std.proofs.lemmas.List.{reverse-append, length-reverse}
use Rattle.rds_model.specs.declared.entry.Entry.{Entry}
use Rattle.rds_model.specs.declared.entry.Entry.TheVariants.{Accept}
use Rattle.rds_wire.specs.declared.header.Header.{Header}
use Rattle.rds_wire.specs.declared.frame.Frame.{Frame}
use Rattle.rds_model.specs.declared.entry.Msg.{Msg}
use Rattle.rds_model.specs.Owed.{header_of}
use Rattle.rds_model.specs.Past.{Accepted, accepted, datagram}
use Rattle.rds_model.specs.Store.{message}

get_front : {X : Type 0} (xs ys : List X) (i : ℕ) (x : X) → slice_get xs i ≡ Some x → slice_get (xs ++ ys) i ≡ Some x
get_front [] ys i x is = cc
get_front (y ∷ xs) ys zero x is = is
get_front (y ∷ xs) ys (suc i) x is = get_front xs ys i x is

get_last : {X : Type 0} (xs : List X) (x : X) → slice_get (xs ++ x ∷ []) (length xs) ≡ Some x
get_last [] x = refl
get_last (y ∷ xs) x = get_last xs x

-- an entry that is older, and the newest
get_older : (e : Entry) (past : List Entry) (i : ℕ) (x : Entry) → slice_get (reverse past) i ≡ Some x → slice_get (reverse (e ∷ past)) i ≡ Some x
get_older e past i x is =
    ap (λ (xs : List Entry). slice_get xs i) (reverse-append (e ∷ []) past) ∙ get_front (reverse past) (e ∷ []) i x is

get_newest : (e : Entry) (past : List Entry) → slice_get (reverse (e ∷ past)) (length past) ≡ Some e
get_newest e past =
    ap (λ (xs : List Entry). slice_get xs (length past)) (reverse-append (e ∷ []) past)
    ∙ ap (slice_get (reverse past ++ e ∷ [])) (sym (length-reverse past)) ∙ get_last (reverse past) e

-- the entry of a datagram
abbrev pub entry_of : Accepted → Entry
entry_of d = Accept d.slot d.sport d.dport d.payload

pub at_place : (past : List Entry) (n : ℕ) (d : Accepted) → datagram past n ≡ Some d → slice_get (reverse past) d.place ≡ Some (entry_of d)
at_place [] n d known = cc
at_place (Accept slot sport dport payload ∷ past) n d known =
    let e : Entry = Accept slot sport dport payload in
    let this : Accepted = record { place = length past; slot = slot; sport = sport; dport = dport; payload = payload } in
    elim (cases_Bool (n == suc (accepted past))) [
      | inl newest ↦
          let same : this ≡ d = (let is : Some this ≡ Some d = sym (cond-true (n == suc (accepted past)) (Some this) (datagram past n) newest) ∙ known in cc) in
          subst (λ (x : Accepted). slice_get (reverse (e ∷ past)) x.place ≡ Some (entry_of x)) same (get_newest e past)
      | inr older ↦
          get_older e past d.place (entry_of d)
          (at_place past n d (sym (cond-false (n == suc (accepted past)) (Some this) (datagram past n) older) ∙ known))
    ]
at_place (e ∷ past) n d known = get_older e past d.place (entry_of d) (at_place past n d known)

-- the entry of a message
pub at_message : (past : List Entry) (m : Msg) (d : Accepted) → datagram past m.num ≡ Some d → m ≡ message m.num d →
    slice_get (reverse past) m.place ≡ Some (entry_of d)
at_message past m d known is = ap (λ (x : Msg). slice_get (reverse past) x.place) is ∙ at_place past m.num d known

abbrev pub frame_of : Header → List ℕ → Frame
frame_of h bytes = record { header = h; payload = bytes }

-- the frame that is made of an entry and its message
pub framed : (past : List Entry) (m : Msg) (h : Header) (bytes : List ℕ) (slot sport dport flags : ℕ) (d : Accepted) →
    h ≡ header_of past m.num m.len sport dport flags → m ≡ message m.num d → Accept slot sport dport bytes ≡ entry_of d →
    frame_of h bytes ≡ frame_of (header_of past m.num (length d.payload) d.sport d.dport flags) d.payload
framed past m h bytes slot sport dport flags d header_is is entry_is =
    let len : m.len ≡ length d.payload = ap (λ (x : Msg). x.len) is in
    let sport_is : sport ≡ d.sport = cc in
    let dport_is : dport ≡ d.dport = cc in
    let bytes_are : bytes ≡ d.payload = cc in
    let made : h ≡ header_of past m.num (length d.payload) d.sport d.dport flags =
    header_is ∙ ap (λ n. header_of past m.num n sport dport flags) len
    ∙ ap (λ n. header_of past m.num (length d.payload) n dport flags) sport_is
    ∙ ap (λ n. header_of past m.num (length d.payload) d.sport n flags) dport_is in
    ap (λ (x : Header). frame_of x bytes) made
    ∙ ap (frame_of (header_of past m.num (length d.payload) d.sport d.dport flags)) bytes_are
