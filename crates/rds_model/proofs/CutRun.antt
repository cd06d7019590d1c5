-- The run with a cut keeps all rules.
use Rattle.std.proofs.Common.{◌≡◌, inl, inr, ℕ, ◌==◌, false, List, [], ◌∷◌, ◌++◌, length, drop, refl, sym, subst, arith}
use Rattle.std.specs.Prelude.{codes}
use Rattle.std.proofs.lemmas.Bool.{cases_eq, ne_eqb}
use Rattle.rds_wire.specs.declared.frame.Frame.{Frame}
use Rattle.rds_wire.specs.declared.kind.TheConstants.{MAP_LENGTH}
use Rattle.rds_wire.specs.Bytes.{IsBytes}
use Rattle.rds_model.specs.Past.{now}
use Rattle.rds_model.specs.Streams.{pulled_frames, read_frames}
use Rattle.rds_model.specs.Owed.{header_of}
use Rattle.rds_model.specs.Legal.{IsWhole}
use Rattle.rds_model.specs.Drained.{IsQuiet}
use Rattle.rds_model.specs.Examples.{frame, map_with, cut_sender, cut_receiver, AreSound}
use Rattle.rds_model.proofs.ExampleSteps.{more, pulling, reading, nothing_yet, pulling_behind, accepting, begins, owing_nothing, all_got}

module _ (map : List ℕ) (long : length map ≡ MAP_LENGTH) (bytes : IsBytes map) where
  -- step by step: a n and b n are the journals without their newest n entries
  a13 : IsWhole (drop 13 (cut_sender map))
  a13 =
      let first = accepting 4000 4001 (codes "first") [] nothing_yet (omega arith) (omega arith) (omega arith) (omega arith) in
      let second = accepting 4000 4001 (codes "second") _ first (omega arith) (omega arith) (omega arith) (omega arith) in
      let third = accepting 4000 4002 (codes "third") _ second (omega arith) (omega arith) (omega arith) (omega arith) in
      accepting 4000 4001 (codes "fourth") _ third (omega arith) (omega arith) (omega arith) (omega arith)

  a12 : IsWhole (drop 12 (cut_sender map))
  a12 = more _ _ a13 (refl, omega arith) refl

  a11 : IsWhole (drop 11 (cut_sender map))
  unfolding header_of
  a11 = pulling _ _ _ map a12 refl long bytes refl

  a10 : IsWhole (drop 10 (cut_sender map))
  unfolding header_of
  a10 = pulling_behind _ _ _ map a11 refl long bytes refl refl

  a9 : IsWhole (drop 9 (cut_sender map))
  unfolding header_of
  a9 = pulling_behind _ _ _ map a10 refl long bytes refl refl

  a7 : IsWhole (drop 7 (cut_sender map))
  a7 = more _ _ (more _ _ a9 refl refl) (λ e. cc) refl

  a6 : IsWhole (drop 6 (cut_sender map))
  a6 = more _ _ a7 (refl, omega arith) refl

  a5 : IsWhole (drop 5 (cut_sender map))
  unfolding header_of
  a5 = pulling _ _ _ map a6 refl long bytes refl

  a4 : IsWhole (drop 4 (cut_sender map))
  unfolding header_of
  a4 = pulling_behind _ _ _ map a5 refl long bytes refl refl

  a3 : IsWhole (drop 3 (cut_sender map))
  unfolding header_of
  a3 = pulling_behind _ _ _ map a4 refl long bytes refl refl

  a2 : IsWhole (drop 2 (cut_sender map))
  unfolding header_of
  a2 = pulling_behind _ _ _ map a3 refl long bytes refl refl

  b11 : IsWhole (drop 11 (cut_receiver map))
  b11 = more _ _ nothing_yet (refl, omega arith) refl

  b10 : IsWhole (drop 10 (cut_receiver map))
  unfolding header_of
  b10 = pulling _ _ _ map b11 refl long bytes refl

  b9 : IsWhole (drop 9 (cut_receiver map))
  b9 = reading _ _ _ _ b10 refl a11 now (omega arith) refl refl

  b8 : IsWhole (drop 8 (cut_receiver map))
  b8 = reading _ _ _ _ b9 refl a10 now (omega arith) (omega arith) refl

  b6 : IsWhole (drop 6 (cut_receiver map))
  b6 = more _ _ (more _ _ b8 refl refl) (refl, omega arith) refl

  b5 : IsWhole (drop 5 (cut_receiver map))
  unfolding header_of
  b5 = pulling _ _ _ map b6 refl long bytes refl

  b4 : IsWhole (drop 4 (cut_receiver map))
  b4 = reading _ _ _ _ b5 refl a5 now (omega arith) refl refl

  b3 : IsWhole (drop 3 (cut_receiver map))
  b3 = reading _ _ _ _ b4 refl a4 now (omega arith) refl refl

  b2 : IsWhole (drop 2 (cut_receiver map))
  b2 = reading _ _ _ _ b3 refl a3 now (omega arith) (omega arith) refl

  b1 : IsWhole (drop 1 (cut_receiver map))
  b1 = reading _ _ _ _ b2 refl a2 now (omega arith) (omega arith) refl

  b0 : IsWhole (cut_receiver map)
  unfolding header_of
  b0 = pulling_behind _ _ _ map b1 refl long bytes refl refl

  a1 : IsWhole (drop 1 (cut_sender map))
  a1 = reading _ _ _ _ a2 refl b5 now (omega arith) refl refl

  a0 : IsWhole (cut_sender map)
  a0 = reading _ _ _ _ a1 refl b0 now (omega arith) refl refl

  -- on stream 1 the second datagram was pulled and not read; on stream 2 all was
  forth : (s : ℕ) → (left : List Frame) × (pulled_frames s (cut_sender map) ≡ read_frames s (cut_receiver map) ++ left)
  forth s =
      elim (cases_eq s 1) [
        | inl is ↦ (
          frame 2 0 4000 4001 0 (codes "second") ∷ [],
          subst (λ (x : ℕ). pulled_frames x (cut_sender map) ≡ read_frames x (cut_receiver map) ++ frame 2 0 4000 4001 0 (codes "second") ∷ []) (sym is) refl,
        )
        | inr other ↦
            elim (cases_eq s 2) [
              | inl is ↦ ([], subst (λ (x : ℕ). pulled_frames x (cut_sender map) ≡ read_frames x (cut_receiver map) ++ []) (sym is) refl)
              | inr other_2 ↦
                  let no : 1 == s ≡ false = ne_eqb 1 s (λ e. other (sym e)) in
                  let no_2 : 2 == s ≡ false = ne_eqb 2 s (λ e. other_2 (sym e)) in
                  ([], simp (no, no_2))
            ]
      ]

  -- on stream 1 the map of the receiver was not read
  back : (s : ℕ) → (left : List Frame) × (pulled_frames s (cut_receiver map) ≡ read_frames s (cut_sender map) ++ left)
  back s =
      elim (cases_eq s 1) [
        | inl is ↦ (
          map_with 0 map ∷ [],
          subst (λ (x : ℕ). pulled_frames x (cut_receiver map) ≡ read_frames x (cut_sender map) ++ map_with 0 map ∷ []) (sym is) refl,
        )
        | inr other ↦
            elim (cases_eq s 2) [
              | inl is ↦ ([], subst (λ (x : ℕ). pulled_frames x (cut_receiver map) ≡ read_frames x (cut_sender map) ++ []) (sym is) refl)
              | inr other_2 ↦
                  let no : 1 == s ≡ false = ne_eqb 1 s (λ e. other (sym e)) in
                  let no_2 : 2 == s ≡ false = ne_eqb 2 s (λ e. other_2 (sym e)) in
                  ([], simp (no, no_2))
            ]
      ]

  pub cut_is_sound : AreSound (cut_sender map) (cut_receiver map)
  cut_is_sound = record {
    sender = a0;
    receiver = b0;
    honest = record {
      forth = λ s. begins s (cut_sender map) (cut_receiver map) (forth s).0 (forth s).1 refl;
      back = λ s. begins s (cut_receiver map) (cut_sender map) (back s).0 (back s).1 refl;
    };
  }

module _ (map : List ℕ) where
  pub cut_is_quiet : IsQuiet 2 (cut_sender map) (cut_receiver map)
  unfolding header_of
  cut_is_quiet = record {
    open_a = refl;
    open_b = refl;
    forth = all_got 2 (cut_sender map) (cut_receiver map) refl refl;
    back = all_got 2 (cut_receiver map) (cut_sender map) refl refl;
    idle_a = owing_nothing 2 (cut_sender map) map refl refl;
    idle_b = owing_nothing 2 (cut_receiver map) map refl refl;
  }
