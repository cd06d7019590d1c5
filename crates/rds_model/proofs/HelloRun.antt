-- The plain run keeps all rules.
use Rattle.std.proofs.Common.{◌≡◌, inl, inr, ℕ, ◌==◌, false, List, [], length, drop, refl, sym, ◌∙◌, subst, arith}
use Rattle.std.specs.Prelude.{codes}
use Rattle.std.proofs.lemmas.List.{append-nil}
use Rattle.std.proofs.lemmas.Bool.{cases_eq, ne_eqb}
use Rattle.rds_wire.specs.declared.kind.TheConstants.{MAP_LENGTH}
use Rattle.rds_wire.specs.Bytes.{IsBytes}
use Rattle.rds_model.specs.Past.{now, before}
use Rattle.rds_model.specs.Streams.{pulled_frames, read_frames}
use Rattle.rds_model.specs.Owed.{header_of}
use Rattle.rds_model.specs.Legal.{IsWhole}
use Rattle.rds_model.specs.Drained.{IsQuiet}
use Rattle.rds_model.specs.Examples.{hello_sender, hello_receiver, AreSound}
use Rattle.rds_model.proofs.ExampleSteps.{more, pulling, reading, nothing_yet, pulling_behind, accepting, begins, owing_nothing, all_got}

module _ (map : List ℕ) (long : length map ≡ MAP_LENGTH) (bytes : IsBytes map) where
  -- the hello run, step by step: a n and b n are the journals without their newest n entries
  a5 : IsWhole (drop 5 (hello_sender map))
  a5 = accepting 4000 4001 (codes "hello") [] nothing_yet (omega arith) (omega arith) (omega arith) (omega arith)

  a4 : IsWhole (drop 4 (hello_sender map))
  a4 = more _ _ a5 (refl, omega arith) refl

  a3 : IsWhole (drop 3 (hello_sender map))
  unfolding header_of
  a3 = pulling _ _ _ map a4 refl long bytes refl

  a2 : IsWhole (drop 2 (hello_sender map))
  unfolding header_of
  a2 = pulling_behind _ _ _ map a3 refl long bytes refl refl

  b4 : IsWhole (drop 4 (hello_receiver map))
  b4 = more _ _ nothing_yet (refl, omega arith) refl

  b3 : IsWhole (drop 3 (hello_receiver map))
  unfolding header_of
  b3 = pulling _ _ _ map b4 refl long bytes refl

  b2 : IsWhole (drop 2 (hello_receiver map))
  b2 = reading _ _ _ _ b3 refl a2 (before now) (omega arith) refl refl

  b1 : IsWhole (drop 1 (hello_receiver map))
  b1 = reading _ _ _ _ b2 refl a2 now (omega arith) (omega arith) refl

  b0 : IsWhole (hello_receiver map)
  unfolding header_of
  b0 = pulling_behind _ _ _ map b1 refl long bytes refl refl

  a1 : IsWhole (drop 1 (hello_sender map))
  a1 = reading _ _ _ _ a2 refl b0 (before (before (before now))) (omega arith) refl refl

  a0 : IsWhole (hello_sender map)
  a0 = reading _ _ _ _ a1 refl b0 now (omega arith) refl refl

  -- all that was pulled on a stream was read
  forth : (s : ℕ) → read_frames s (hello_receiver map) ≡ pulled_frames s (hello_sender map)
  forth s =
      elim (cases_eq s 1) [
        | inl is ↦ subst (λ (x : ℕ). read_frames x (hello_receiver map) ≡ pulled_frames x (hello_sender map)) (sym is) refl
        | inr other ↦ let no : 1 == s ≡ false = ne_eqb 1 s (λ e. other (sym e)) in simp no
      ]

  back : (s : ℕ) → read_frames s (hello_sender map) ≡ pulled_frames s (hello_receiver map)
  back s =
      elim (cases_eq s 1) [
        | inl is ↦ subst (λ (x : ℕ). read_frames x (hello_sender map) ≡ pulled_frames x (hello_receiver map)) (sym is) refl
        | inr other ↦ let no : 1 == s ≡ false = ne_eqb 1 s (λ e. other (sym e)) in simp no
      ]

  pub hello_is_sound : AreSound (hello_sender map) (hello_receiver map)
  hello_is_sound = record {
    sender = a0;
    receiver = b0;
    honest = record {
      forth = λ s. begins s (hello_sender map) (hello_receiver map) [] (sym (forth s) ∙ sym (append-nil (read_frames s (hello_receiver map)))) refl;
      back = λ s. begins s (hello_receiver map) (hello_sender map) [] (sym (back s) ∙ sym (append-nil (read_frames s (hello_sender map)))) refl;
    };
  }

module _ (map : List ℕ) where
  pub hello_is_quiet : IsQuiet 1 (hello_sender map) (hello_receiver map)
  unfolding header_of
  hello_is_quiet = record {
    open_a = refl;
    open_b = refl;
    forth = all_got 1 (hello_sender map) (hello_receiver map) refl refl;
    back = all_got 1 (hello_receiver map) (hello_sender map) refl refl;
    idle_a = owing_nothing 1 (hello_sender map) map refl refl;
    idle_b = owing_nothing 1 (hello_receiver map) map refl refl;
  }
