-- What code leaves in the words of a map, and finds there: the word of port p is w, at place i.
use Rattle.std.proofs.Common.{◌≡◌, ℕ, ◌*◌, ◌/◌, ◌%◌, ◌^◌, ◌<◌, ◌==◌, ◌&&◌, ◌||◌, nat_eq, not, List, length, slice_index, slice_set, get_or, bit_and, bit_or, sym, ap, ◌∙◌, subst, arith, w64}
use Rattle.std.proofs.lemmas.List.{get_or_default}
use Rattle.std.proofs.lemmas.Nat.{or_lt}
use Rattle.std.specs.Int.{bit_not}
use Rattle.rds_cong.specs.Map.{has_port, with_port, without_port, IsMap, IsWords}
use Rattle.rds_cong.specs.ChangeLaws.{has_port-with, has_port-without, bytes-put, bytes-taken}
use Rattle.rds_cong.specs.PortLaws.{has_port-test}
use Rattle.rds_cong.specs.WordLaws.{bytes_of_words, IsWords-set}

-- Code reads w as the word at i, which is that of port p.
pub record IsWordOf (words : List ℕ) (p i w : ℕ) : Type 0 where
  pub kept : IsWords words
  pub port : p < 2 ^ 16
  pub place : i ≡ p / 64
  pub read : w ≡ get_or words i w

within : (words : List ℕ) (p i w : ℕ) → IsWordOf words p i w → p / 64 < length words
within words p i w h = let count = h.kept.count in let fits = h.port in omega arith

word_is : (words : List ℕ) (p i w : ℕ) → IsWordOf words p i w → w ≡ slice_index words (p / 64)
word_is words p i w h =
    h.read ∙ get_or_default words i w 0 (subst (λ k. k < length words) (sym h.place) (within words p i w h)) ∙ ap (slice_index words) h.place

pub put_at : (words : List ℕ) (p i w : ℕ) → IsWordOf words p i w
    → bytes_of_words (slice_set words i (bit_or w (1 * 2 ^ (p % 64) % 2 ^ 64))) ≡ with_port (bytes_of_words words) p
put_at words p i w h = rw (h.place, word_is words p i w h) (bytes-put words p (within words p i w h))

pub taken_at : (words : List ℕ) (p i w : ℕ) → IsWordOf words p i w
    → bytes_of_words (slice_set words i (bit_and w (bit_not w64 (1 * 2 ^ (p % 64) % 2 ^ 64)))) ≡ without_port (bytes_of_words words) p
taken_at words p i w h = rw (h.place, word_is words p i w h) (bytes-taken words p (within words p i w h))

pub test_at : (words : List ℕ) (p i w : ℕ) → IsWordOf words p i w
    → nat_eq (bit_and (w / 2 ^ (p % 64)) 1) 1 ≡ has_port (bytes_of_words words) p
test_at words p i w h = ap (λ v. nat_eq (bit_and (v / 2 ^ (p % 64)) 1) 1) (word_is words p i w h) ∙ has_port-test words p

-- the word with a bit put in still fits
pub IsWords-put : (words : List ℕ) (p i w : ℕ) → IsWordOf words p i w
    → IsWords (slice_set words i (bit_or w (1 * 2 ^ (p % 64) % 2 ^ 64)))
IsWords-put words p i w h =
    let at : i < length words = subst (λ k. k < length words) (sym h.place) (within words p i w h) in
    let small : w < 2 ^ 64 = subst (λ v. v < 2 ^ 64) (sym h.read) (h.kept.fit i w at) in
    IsWords-set words i _ (or_lt 64 w (1 * 2 ^ (p % 64) % 2 ^ 64) small (omega arith)) h.kept

-- the ports of a map with one more, and with one less
pub ports_put : (map new : List ℕ) (p q : ℕ) → IsMap map → p < 2 ^ 16 → new ≡ with_port map p
    → has_port new q ≡ (q == p || has_port map q)
ports_put map new p q h fits is = ap (λ m. has_port m q) is ∙ has_port-with map p q (let size = h.size in omega arith)

pub ports_taken : (map new : List ℕ) (p q : ℕ) → IsMap map → p < 2 ^ 16 → new ≡ without_port map p
    → has_port new q ≡ (not (q == p) && has_port map q)
ports_taken map new p q h fits is = ap (λ m. has_port m q) is ∙ has_port-without map p q (let size = h.size in omega arith)
