-- What is kept over several steps.
use Rattle.std.proofs.Common.{◌≡◌, ℕ, List, [], ◌∷◌, ◌++◌, ◌≤◌, zero, suc, length, take, drop, Result, Ok, Err, IfOk, OnOk, refl, sym, ap, subst, ◌∙◌, arith}
use Rattle.std.proofs.lemmas.List.{append-nil, take_all}
use Rattle.std.proofs.lemmas.Option.{same_Some}
use Rattle.rds_wire.specs.declared.memory.Memory.{Memory}
use Rattle.rds_fmap.specs.Readers.{ReaderView}
use Rattle.rds_socket.specs.Holding.{Holding}
use Rattle.rds_run_callers.specs.Places.{CallerView, Place, PlaceKeeps, PlacesKeep, holding_of}
use Rattle.rds_run_hosts.specs.Leading.{CallersKeep}
use Rattle.rds_run_hosts.proofs.At.{stood_at}

place_same : (h : Holding ReaderView) → PlaceKeeps h h
place_same h = record {
  stays = record { slot = refl; table = refl; meter = refl; seats = refl; bell = refl; mail = refl; routes = record { fixed_parts = refl; seen = λ place port seen is. is } };
  joined = refl;
  told = refl;
}

place_through : (a b c : Holding ReaderView) → PlaceKeeps a b → PlaceKeeps b c → PlaceKeeps a c
place_through a b c one two = record {
  stays = record {
    slot = two.stays.slot ∙ one.stays.slot;
    table = two.stays.table ∙ one.stays.table;
    meter = two.stays.meter ∙ one.stays.meter;
    seats = two.stays.seats ∙ one.stays.seats;
    bell = two.stays.bell ∙ one.stays.bell;
    mail = two.stays.mail ∙ one.stays.mail;
    routes = record {
      fixed_parts = two.stays.routes.fixed_parts ∙ one.stays.routes.fixed_parts;
      seen = λ place port seen is. two.stays.routes.seen place port seen (one.stays.routes.seen place port seen is);
    };
  };
  joined = two.joined ∙ one.joined;
  told = two.told ∙ one.told;
}

pub keeps_same : (places : List Place) → PlacesKeep places places
keeps_same places = record {
  count = refl;
  each = λ slot p q stood stands. subst (λ (x : Place). PlaceKeeps (holding_of p) (holding_of x)) (same_Some p q (sym stood ∙ stands)) (place_same (holding_of p));
}

pub keeps_through : (a b c : List Place) → PlacesKeep a b → PlacesKeep b c → PlacesKeep a c
keeps_through a b c one two = record {
  count = two.count ∙ one.count;
  each = λ slot p q stood stands.
      let between = stood_at b c slot q two.count stands in
      place_through (holding_of p) (holding_of between.0) (holding_of q) (one.each slot p between.0 stood between.1) (two.each slot between.0 q between.1 stands);
}

pub callers_same : (callers : List CallerView) → CallersKeep callers callers
callers_same callers = record {
  count = refl;
  each = λ host caller after stood stands.
      subst (λ (c : CallerView). PlacesKeep caller.places c.places) (same_Some caller after (sym stood ∙ stands)) (keeps_same caller.places);
}

pub callers_through : (a b c : List CallerView) → CallersKeep a b → CallersKeep b c → CallersKeep a c
callers_through a b c one two = record {
  count = two.count ∙ one.count;
  each = λ host first last stood stands.
      let between = stood_at b c host last two.count stands in
      keeps_through first.places between.0.places last.places (one.each host first between.0 stood between.1) (two.each host between.0 last between.1 stands);
}

-- a vector whose items were lent out and came back, as many as before
pub drop_end : {T : Type 0} (xs : List T) (k : ℕ) → length xs ≤ k → drop k xs ≡ []
drop_end [] zero small = refl
drop_end [] (suc k) small = refl
drop_end (x ∷ xs) zero small = absurd (omega (arith, small))
drop_end (x ∷ xs) (suc k) small = drop_end xs k (omega (arith, small))

pub back_of : {T : Type 0} (old new : List T) (n : ℕ) → n ≡ length old → length new ≡ length old → take n (new ++ drop (length new) old) ≡ new
back_of {T} old new n len same =
    ap (λ (l : List T). take n (new ++ l)) (drop_end old (length new) (omega (arith, same)))
    ∙ (ap (take n) (append-nil new) ∙ take_all n new (omega (arith, len, same)))

-- what holds where something was made, from what else holds there
pub on_ok : {A : Type 0} (P Q : A → Type 0) (result : Result A Memory) → ((a : A) → P a → Q a) → IfOk result P → IfOk result Q
on_ok P Q (Ok a) f p = f a p
on_ok P Q (Err e) f p = tt

pub on_done : (P Q : Type 0) (result : Result (Unit {0}) Memory) → (P → Q) → OnOk result P → OnOk result Q
on_done P Q (Ok done) f p = f p
on_done P Q (Err e) f p = tt
