-- What a view has after a word was put.
use Rattle.std.proofs.Common.{◌≡◌, ◌≢◌, ℕ, ◌+◌, ◌%◌, ◌^◌, ◌<◌, ◌≤◌, ◌==◌, nat_eq, nat_lt, Bool, true, false, cond, List, [], ◌∷◌, ◌++◌, length, refl, sym, ap, ◌∙◌, subst, arith}
use Rattle.std.proofs.lemmas.Bool.{lt-ltb, le-ltb, ltb-true, ltb-false, eqb-true, eqb-false}
use Rattle.std.proofs.lemmas.List.{append_assoc, length-append, get_or_push}
use Rattle.std.proofs.lemmas.List.Concat.{flat_map-append}
use Rattle.std.specs.Int.{bit_at}
use Rattle.byteorder.specs.Endian.{little_bytes}
use Rattle.rds_cong.specs.Map.{no_ports}
use Rattle.rds_cong.specs.Halves.{bytes_of_halves}
use Rattle.rds_fmap.specs.Views.{version_in, maps_begun, after_put}
use Rattle.rds_fmap.specs.Shared.{IsWordOf, version_at}
use Rattle.rds_fmap.specs.declared.words.view.View.{View}
use Rattle.rds_cong.specs.HalfLaws.{length-halves, port-halves, bit-low}
use Rattle.rds_fmap.proofs.Growth.{Begins, Grows, last_grows, get_at}

pub version_put : (v : View) (j : ℕ) → j < length v.part → version_at v j ≡ length v.published + 1
version_put v j h = ap (λ b. cond b (length v.published + 1) (length v.published)) (lt-ltb j (length v.part) h)

pub version_left : (v : View) (j : ℕ) → length v.part ≤ j → version_at v j ≡ length v.published
version_left v j h = ap (λ b. cond b (length v.published + 1) (length v.published)) (le-ltb j (length v.part) h)

abbrev pub longer : View → ℕ → List ℕ
longer v n = v.part ++ n % 2 ^ 32 ∷ []

-- one more number goes on with the bytes
pub bytes_longer : (v : View) (n : ℕ) → Begins (bytes_of_halves v.part) (bytes_of_halves (longer v n))
bytes_longer v n = (bytes_of_halves (n % 2 ^ 32 ∷ []), flat_map-append (little_bytes 4) v.part (n % 2 ^ 32 ∷ []))

pub longer_length : (v : View) (n : ℕ) → length (longer v n) ≡ length v.part + 1
longer_length v n = length-append v.part (n % 2 ^ 32 ∷ [])

-- what a put leaves: longer maps, the word among them, the versions of the words, and all else as before
pub record Put (v : View) (n : ℕ) (w : View) : Type 0 where
  pub grows : Grows (maps_begun v) (maps_begun w)
  pub word : IsWordOf (maps_begun w) (length v.part) n
  pub here : version_at w (length v.part) ≡ length v.published + 1
  pub there : (j : ℕ) → j < 2048 → j ≢ length v.part → version_at w j ≡ version_at v j
  pub unfinished : length w.part < 2048
  pub writes : w.writes ≡ v.writes
  pub looks : w.looks ≡ v.looks

module _ (v : View) (n : ℕ) (version : version_in n ≡ length v.published + 1) where
  abbrev before : List (List ℕ)
  before = no_ports ∷ v.published

  word_in : (post : List (List ℕ)) → IsWordOf (before ++ bytes_of_halves (longer v n) ∷ post) (length v.part) n
  word_in post = record {
    map = bytes_of_halves (longer v n);
    version = get_at before post (bytes_of_halves (longer v n)) (version_in n) (omega arith);
    put = (let a = length-halves (longer v n) in let b = longer_length v n in omega arith);
    ports = λ b h. sym (port-halves (longer v n) (length v.part) b h
        ∙ ap (λ x. bit_at x b == 1) (get_or_push v.part (n % 2 ^ 32) 0 (length v.part) refl)
        ∙ ap (λ x. x == 1) (bit-low n b h));
  }

  -- a word of the map in progress
  more : length v.part < 2047 → Put v n (record v { part = longer v n })
  more room = record {
    grows = last_grows before [] (bytes_of_halves v.part) (bytes_of_halves (longer v n)) (bytes_longer v n);
    word = word_in [];
    here = version_put (record v { part = longer v n }) (length v.part) (let l = longer_length v n in omega arith);
    there = λ j h apart. more_there room j h apart (nat_lt j (length v.part)) refl;
    unfinished = (let l = longer_length v n in omega arith);
    writes = refl;
    looks = refl;
  }
    where
      more_there : length v.part < 2047 → (j : ℕ) → j < 2048 → j ≢ length v.part → (b : Bool) → nat_lt j (length v.part) ≡ b → version_at (record v { part = longer v n }) j ≡ version_at v j
      more_there room j h apart true is =
          let l = longer_length v n in
          let low : j < length v.part = ltb-true j (length v.part) is in
          version_put (record v { part = longer v n }) j (omega arith) ∙ sym (version_put v j low)
      more_there room j h apart false is =
          let l = longer_length v n in
          let high : length v.part ≤ j = ltb-false j (length v.part) is in
          version_left (record v { part = longer v n }) j (omega arith) ∙ sym (version_left v j high)

  abbrev finished : View
  finished = record v { published = v.published ++ bytes_of_halves (longer v n) ∷ []; part = [] }

  maps_finished : maps_begun finished ≡ before ++ bytes_of_halves (longer v n) ∷ [] ∷ []
  maps_finished = ap (λ l. no_ports ∷ l) (append_assoc v.published (bytes_of_halves (longer v n) ∷ []) ([] ∷ []))

  finished_count : length finished.published ≡ length v.published + 1
  finished_count = length-append v.published (bytes_of_halves (longer v n) ∷ [])

  -- the last word of a map
  last : length v.part ≡ 2047 → Put v n finished
  last full = record {
    grows = subst (Grows (maps_begun v)) (sym maps_finished) (last_grows before ([] ∷ []) (bytes_of_halves v.part) (bytes_of_halves (longer v n)) (bytes_longer v n));
    word = subst (λ maps. IsWordOf maps (length v.part) n) (sym maps_finished) (word_in ([] ∷ []));
    here = version_left finished (length v.part) (omega arith) ∙ finished_count;
    there = λ j h apart. version_left finished j (omega arith) ∙ finished_count ∙ sym (version_put v j (omega arith));
    unfinished = omega arith;
    writes = refl;
    looks = refl;
  }

  put_by : (b : Bool) → nat_eq (length v.part) 2047 ≡ b → length v.part < 2048 → Put v n (cond b finished (record v { part = longer v n }))
  put_by true is room = last (eqb-true (length v.part) 2047 is)
  put_by false is room = more (let apart = eqb-false (length v.part) 2047 is in omega arith)

  pub puts_word : length v.part < 2048 → Put v n (after_put v n)
  puts_word room = put_by (nat_eq (length v.part) 2047) refl room
