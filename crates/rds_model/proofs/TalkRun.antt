-- The run with data both ways keeps all rules.
use Rattle.std.proofs.Common.{◌≡◌, inl, inr, ℕ, ◌==◌, false, List, [], length, drop, refl, sym, ◌∙◌, subst, arith}
use Rattle.std.specs.Prelude.{codes}
use Rattle.std.proofs.lemmas.List.{append-nil}
use Rattle.std.proofs.lemmas.Bool.{cases_eq, ne_eqb}
use Rattle.rds_wire.specs.declared.kind.TheConstants.{MAP_LENGTH}
use Rattle.rds_wire.specs.Bytes.{IsBytes}
use Rattle.rds_model.specs.Past.{now}
use Rattle.rds_model.specs.Streams.{pulled_frames, read_frames}
use Rattle.rds_model.specs.Owed.{header_of}
use Rattle.rds_model.specs.Legal.{IsWhole}
use Rattle.rds_model.specs.Drained.{IsQuiet}
use Rattle.rds_model.specs.Examples.{talk_first, talk_second, AreSound}
use Rattle.rds_model.proofs.ExampleSteps.{more, pulling, reading, answering, nothing_yet, pulling_behind, accepting, begins, owing_nothing, all_got}

module _ (map : List ℕ) (long : length map ≡ MAP_LENGTH) (bytes : IsBytes map) where
  -- step by step: a n and b n are the journals without their newest n entries
  a13 : IsWhole (drop 13 (talk_first map))
  a13 =
      let there = accepting 4000 4001 (codes "there") [] nothing_yet (omega arith) (omega arith) (omega arith) (omega arith) in
      let ping = accepting 4000 0 [] _ there (omega arith) (omega arith) (omega arith) (omega arith) in
      let nobody = accepting 4000 4009 (codes "nobody") _ ping (omega arith) (omega arith) (omega arith) (omega arith) in
      let void = accepting 0 0 [] _ nobody (omega arith) (omega arith) (omega arith) (omega arith) in
      accepting 4000 4002 (codes "late") _ void (omega arith) (omega arith) (omega arith) (omega arith)

  a12 : IsWhole (drop 12 (talk_first map))
  a12 = more _ _ a13 (refl, omega arith) refl

  a11 : IsWhole (drop 11 (talk_first map))
  unfolding header_of
  a11 = pulling _ _ _ map a12 refl long bytes refl

  a10 : IsWhole (drop 10 (talk_first map))
  unfolding header_of
  a10 = pulling_behind _ _ _ map a11 refl long bytes refl refl

  a9 : IsWhole (drop 9 (talk_first map))
  unfolding header_of
  a9 = pulling_behind _ _ _ map a10 refl long bytes refl refl

  a8 : IsWhole (drop 8 (talk_first map))
  unfolding header_of
  a8 = pulling_behind _ _ _ map a9 refl long bytes refl refl

  a7 : IsWhole (drop 7 (talk_first map))
  unfolding header_of
  a7 = pulling_behind _ _ _ map a8 refl long bytes refl refl

  a6 : IsWhole (drop 6 (talk_first map))
  a6 = more _ _ a7 (λ e. cc) refl

  a5 : IsWhole (drop 5 (talk_first map))
  unfolding header_of
  a5 = pulling_behind _ _ _ map a6 refl long bytes refl refl

  b13 : IsWhole (drop 13 (talk_second map))
  b13 = accepting 4001 4000 (codes "back") [] nothing_yet (omega arith) (omega arith) (omega arith) (omega arith)

  b12 : IsWhole (drop 12 (talk_second map))
  b12 = more _ _ b13 (refl, omega arith) refl

  b11 : IsWhole (drop 11 (talk_second map))
  unfolding header_of
  b11 = pulling _ _ _ map b12 refl long bytes refl

  b10 : IsWhole (drop 10 (talk_second map))
  b10 = reading _ _ _ _ b11 refl a11 now (omega arith) refl refl

  b9 : IsWhole (drop 9 (talk_second map))
  b9 = reading _ _ _ _ b10 refl a10 now (omega arith) (omega arith) refl

  b8 : IsWhole (drop 8 (talk_second map))
  unfolding header_of
  b8 = pulling_behind _ _ _ map b9 refl long bytes refl refl

  b6 : IsWhole (drop 6 (talk_second map))
  b6 = answering _ _ _ b8 refl a9 now (omega arith) refl (omega arith)

  b5 : IsWhole (drop 5 (talk_second map))
  b5 = reading _ _ _ _ b6 refl a8 now (omega arith) tt refl

  b4 : IsWhole (drop 4 (talk_second map))
  b4 = reading _ _ _ _ b5 refl a7 now (omega arith) refl refl

  b3 : IsWhole (drop 3 (talk_second map))
  unfolding header_of
  b3 = pulling_behind _ _ _ map b4 refl long bytes refl refl

  b2 : IsWhole (drop 2 (talk_second map))
  b2 = reading _ _ _ _ b3 refl a5 now (omega arith) refl refl

  b1 : IsWhole (drop 1 (talk_second map))
  unfolding header_of
  b1 = pulling_behind _ _ _ map b2 refl long bytes refl refl

  a4 : IsWhole (drop 4 (talk_first map))
  a4 = reading _ _ _ _ a5 refl b11 now (omega arith) refl refl

  a3 : IsWhole (drop 3 (talk_first map))
  a3 = reading _ _ _ _ a4 refl b8 now (omega arith) (omega arith) refl

  a2 : IsWhole (drop 2 (talk_first map))
  a2 = reading _ _ _ _ a3 refl b3 now (omega arith) (omega arith) refl

  a1 : IsWhole (drop 1 (talk_first map))
  a1 = reading _ _ _ _ a2 refl b1 now (omega arith) refl refl

  a0 : IsWhole (talk_first map)
  unfolding header_of
  a0 = pulling_behind _ _ _ map a1 refl long bytes refl refl

  b0 : IsWhole (talk_second map)
  b0 = reading _ _ _ _ b1 refl a0 now (omega arith) refl refl

  -- all that was pulled on a stream was read
  forth : (s : ℕ) → read_frames s (talk_second map) ≡ pulled_frames s (talk_first map)
  forth s =
      elim (cases_eq s 1) [
        | inl is ↦ subst (λ (x : ℕ). read_frames x (talk_second map) ≡ pulled_frames x (talk_first map)) (sym is) refl
        | inr other ↦ let no : 1 == s ≡ false = ne_eqb 1 s (λ e. other (sym e)) in simp no
      ]

  back : (s : ℕ) → read_frames s (talk_first map) ≡ pulled_frames s (talk_second map)
  back s =
      elim (cases_eq s 1) [
        | inl is ↦ subst (λ (x : ℕ). read_frames x (talk_first map) ≡ pulled_frames x (talk_second map)) (sym is) refl
        | inr other ↦ let no : 1 == s ≡ false = ne_eqb 1 s (λ e. other (sym e)) in simp no
      ]

  pub talk_is_sound : AreSound (talk_first map) (talk_second map)
  talk_is_sound = record {
    sender = a0;
    receiver = b0;
    honest = record {
      forth = λ s. begins s (talk_first map) (talk_second map) [] (sym (forth s) ∙ sym (append-nil (read_frames s (talk_second map)))) refl;
      back = λ s. begins s (talk_second map) (talk_first map) [] (sym (back s) ∙ sym (append-nil (read_frames s (talk_first map)))) refl;
    };
  }

module _ (map : List ℕ) where
  pub talk_is_quiet : IsQuiet 1 (talk_first map) (talk_second map)
  unfolding header_of
  talk_is_quiet = record {
    open_a = refl;
    open_b = refl;
    forth = all_got 1 (talk_first map) (talk_second map) refl refl;
    back = all_got 1 (talk_second map) (talk_first map) refl refl;
    idle_a = owing_nothing 1 (talk_first map) map refl refl;
    idle_b = owing_nothing 1 (talk_second map) map refl refl;
  }
