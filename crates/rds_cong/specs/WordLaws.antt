-- Laws, each proved: proofs in other crates use them. Nothing here has to be believed.
-- Words as bytes: byte 8 i + j is byte j of word i.
use Rattle.std.proofs.Common.{◌≡◌, ◌≢◌, ◌==◌, if◌then◌else◌, ℕ, zero, suc, ◌+◌, ◌*◌, ◌/◌, ◌%◌, ◌^◌, ◌<◌, ◌≤◌, List, [], ◌∷◌, ◌++◌, length, take, drop, set, replicate, slice_index, slice_set, refl, sym, ap, ◌∙◌, subst, arith, length-drop, ⊎_elim, ◌-◌}
use Rattle.std.proofs.lemmas.List.{get_or-set_same, get_or-set_other, append_assoc, take_at, drop_at, drop_more, take-append-drop, set_split, length-take-le, ext_get_or, get_or_default, get_or-drop, get_or_past, get_or-replicate, length-replicate, length-set}
use Rattle.std.proofs.lemmas.List.Elements.{All-set}
use Rattle.std.proofs.lemmas.Bool.{cases_lt, cases_eq, eq-eqb, ne_eqb}
use Rattle.std.proofs.lemmas.List.Concat.{flat_map-append}
use Rattle.std.specs.Int.{byte_at}
use Rattle.std.specs.List.{flat_map, All}
use Rattle.byteorder.specs.Endian.{little_bytes, little_number, IsRead}
use Rattle.byteorder.specs.Numbers.{little_number-reads_back}
use Rattle.rds_wire.specs.Bytes.{IsBytes}
use Rattle.rds_cong.specs.Map.{word_at, with_word, IsWords, IsMap}
use Rattle.rds_cong.specs.declared.map.TheConstants.{WORDS}
use Rattle.rds_cong.specs.DigitLaws.{byte-zero, byte_below, byte-little}

-- the bytes of words
abbrev pub bytes_of_words : List ℕ → List ℕ
bytes_of_words words = flat_map (little_bytes 8) words

pub length-bytes : (words : List ℕ) → length (bytes_of_words words) ≡ 8 * length words
length-bytes [] = refl
length-bytes (w ∷ words) = let e = length-bytes words in omega arith

first_byte : (w j : ℕ) (rest : List ℕ) → j < 8 → slice_index (little_bytes 8 w ++ rest) j ≡ byte_at j w
first_byte w zero rest h = refl
first_byte w (suc zero) rest h = refl
first_byte w (suc (suc zero)) rest h = refl
first_byte w (suc (suc (suc zero))) rest h = refl
first_byte w (suc (suc (suc (suc zero)))) rest h = refl
first_byte w (suc (suc (suc (suc (suc zero))))) rest h = refl
first_byte w (suc (suc (suc (suc (suc (suc zero)))))) rest h = refl
first_byte w (suc (suc (suc (suc (suc (suc (suc zero))))))) rest h = refl
first_byte w (suc (suc (suc (suc (suc (suc (suc (suc j)))))))) rest h = absurd (omega arith)

pub byte-bytes : (words : List ℕ) (i j : ℕ) → j < 8 → slice_index (bytes_of_words words) (8 * i + j) ≡ byte_at j (slice_index words i)
byte-bytes [] i j h = sym (byte-zero j)
byte-bytes (w ∷ words) zero j h = let e : 8 * 0 + j ≡ j = omega arith in rw e (first_byte w j (bytes_of_words words) h)
byte-bytes (w ∷ words) (suc i) j h =
    let e : 8 * suc i + j ≡ suc (suc (suc (suc (suc (suc (suc (suc (8 * i + j)))))))) = omega arith in
    rw e (byte-bytes words i j h)

-- each is a byte
pub IsBytes-bytes : (words : List ℕ) → IsBytes (bytes_of_words words)
IsBytes-bytes words k d h =
    let split : k ≡ 8 * (k / 8) + k % 8 = omega arith in
    let small : k % 8 < 8 = omega arith in
    let at : slice_index (bytes_of_words words) k ≡ byte_at (k % 8) (slice_index words (k / 8)) =
    ap (slice_index (bytes_of_words words)) split ∙ byte-bytes words (k / 8) (k % 8) small in
    let below : byte_at (k % 8) (slice_index words (k / 8)) < 256 = byte_below (k % 8) (slice_index words (k / 8)) in
    subst (λ b. b < 256) (sym (get_or_default (bytes_of_words words) k d 0 h ∙ at)) below

-- the bytes of the first i words, and those of the others
split_bytes : (words : List ℕ) (i : ℕ) → bytes_of_words words ≡ bytes_of_words (take i words) ++ bytes_of_words (drop i words)
split_bytes words i = ap bytes_of_words (sym (take-append-drop i words)) ∙ flat_map-append (little_bytes 8) (take i words) (drop i words)

front_length : (words : List ℕ) (i : ℕ) → i ≤ length words → length (bytes_of_words (take i words)) ≡ 8 * i
front_length words i h = length-bytes (take i words) ∙ ap (λ n. 8 * n) (length-take-le i words h)

pub take-bytes : (words : List ℕ) (i : ℕ) → i ≤ length words → take (8 * i) (bytes_of_words words) ≡ bytes_of_words (take i words)
take-bytes words i h = ap (take (8 * i)) (split_bytes words i) ∙ take_at _ _ (8 * i) (front_length words i h)

pub drop-bytes : (words : List ℕ) (i : ℕ) → i ≤ length words → drop (8 * i) (bytes_of_words words) ≡ bytes_of_words (drop i words)
drop-bytes words i h = ap (drop (8 * i)) (split_bytes words i) ∙ drop_at _ _ (8 * i) (front_length words i h)

-- a word can be read back
pub word-bytes : (words : List ℕ) (i : ℕ) → i < length words → slice_index words i < 2 ^ 64
    → word_at (bytes_of_words words) i ≡ slice_index words i
unfolding word_at
word-bytes words i h fits =
    ap (little_number 8) (drop-bytes words i (omega arith) ∙ ap bytes_of_words (drop_more words i 0 h))
    ∙ little_number-reads_back 8 (slice_index words i) (bytes_of_words (drop (i + 1) words)) fits

-- another word i
pub bytes-set : (words : List ℕ) (i w : ℕ) → i < length words → bytes_of_words (set words i w) ≡ with_word (bytes_of_words words) i w
unfolding with_word
bytes-set words i w h =
    let next : 8 * i + 8 ≡ 8 * suc i = omega arith in
    ap bytes_of_words (set_split words i w h) ∙ flat_map-append (little_bytes 8) (take i words) (w ∷ drop (suc i) words)
    ∙ sym (append_assoc (bytes_of_words (take i words)) (little_bytes 8 w) (bytes_of_words (drop (suc i) words)))
    ∙ sym (rw (next, take-bytes words i (omega arith), drop-bytes words (suc i) (omega arith)) refl)

-- words are the same where their bytes are
pub same_words : (xs ys : List ℕ) → length xs ≡ length ys → All (λ w. w < 2 ^ 64) xs → All (λ w. w < 2 ^ 64) ys
    → bytes_of_words xs ≡ bytes_of_words ys → xs ≡ ys
same_words xs ys long fx fy e =
    ext_get_or 0 xs ys long (λ i h.
    sym (word-bytes xs i h (fx i 0 h)) ∙ ap (λ b. word_at b i) e ∙ word-bytes ys i (subst (λ n. i < n) long h) (fy i 0 (subst (λ n. i < n) long h)))

-- each number of a list of bytes is small, also past its end
small_at : (bytes : List ℕ) → IsBytes bytes → (k : ℕ) → slice_index bytes k < 256
small_at bytes small k =
    ⊎_elim (small k 0) (λ past. subst (λ b. b < 256) (sym (get_or_past bytes k 0 past)) (omega arith)) (cases_lt k (length bytes))

small_drop : (bytes : List ℕ) (n : ℕ) → IsBytes bytes → IsBytes (drop n bytes)
small_drop bytes n small k d h =
    let l : length (drop n bytes) ≡ length bytes - n = length-drop n bytes in
    subst (λ b. b < 256) (sym (get_or-drop n bytes k d)) (small (n + k) d (omega arith))

-- words that were read from bytes have those bytes
pub bytes-read : (bytes words : List ℕ) → length bytes ≡ 8 * length words → IsBytes bytes
    → IsRead little_number 8 bytes words → bytes_of_words words ≡ bytes
bytes-read bytes words long small read =
    let same : length (bytes_of_words words) ≡ length bytes = length-bytes words ∙ sym long in
    ext_get_or 0 (bytes_of_words words) bytes same (λ k h.
    let i = k / 8 in
    let j = k % 8 in
    let split : k ≡ 8 * i + j = omega arith in
    let below : j < 8 = omega arith in
    let count : length (bytes_of_words words) ≡ 8 * length words = length-bytes words in
    let within : i < length words = omega arith in
    ap (slice_index (bytes_of_words words)) split ∙ byte-bytes words i j below ∙ ap (byte_at j) (read i within)
    ∙ byte-little 8 0 j (drop (8 * i) bytes) (small_at (drop (8 * i) bytes) (small_drop bytes (8 * i) small)) below
    ∙ ap (slice_index (drop (8 * i) bytes)) (omega arith) ∙ get_or-drop (8 * i) bytes j 0 ∙ ap (slice_index bytes) (sym split))

-- words of zeros have bytes of zeros
pub bytes-zeros : (n m : ℕ) (words : List ℕ) → words ≡ replicate n 0 → m ≡ 8 * n → bytes_of_words words ≡ replicate m 0
bytes-zeros n m words is size = ap bytes_of_words is ∙ zeros n ∙ ap (λ k. replicate k 0) (sym size)
  where
    zeros : (n : ℕ) → bytes_of_words (replicate n 0) ≡ replicate (8 * n) 0
    zeros zero = refl
    zeros (suc n) =
        let e : 8 * suc n ≡ suc (suc (suc (suc (suc (suc (suc (suc (8 * n)))))))) = omega arith in
        rw (e, zeros n) refl

-- words stay words, one changed
pub IsWords-set : (words : List ℕ) (i w : ℕ) → w < 2 ^ 64 → IsWords words → IsWords (slice_set words i w)
IsWords-set words i w fits h = record {
  count = length-set words i w ∙ h.count;
  fit = All-set (λ w. w < 2 ^ 64) words i w fits h.fit;
}

-- the bytes of a map
pub IsMap-bytes : (words : List ℕ) → IsWords words → IsMap (bytes_of_words words)
IsMap-bytes words h = record {
  size = length-bytes words ∙ ap (λ n. 8 * n) h.count;
  bytes = IsBytes-bytes words;
}

-- zeros are words
pub IsWords-zeros : (n : ℕ) (words : List ℕ) → words ≡ replicate n 0 → n ≡ WORDS → IsWords words
IsWords-zeros n words is count = subst IsWords (sym is) (record {
  count = length-replicate n 0 ∙ count;
  fit = λ i d h. subst (λ w. w < 2 ^ 64) (sym (get_or-replicate n i 0 d (subst (λ k. i < k) (length-replicate n 0) h))) (omega arith);
})

-- a word of those that are kept
pub word_is : (words : List ℕ) (i : ℕ) → i < length words → All (λ w. w < 2 ^ 64) words → word_at (bytes_of_words words) i ≡ slice_index words i
word_is words i h fit = word-bytes words i h (fit i 0 h)

-- the words after one was put
pub word-set : (words : List ℕ) (i j w : ℕ) → i < length words → j < length words → w < 2 ^ 64 → IsWords words
    → word_at (bytes_of_words (slice_set words i w)) j ≡ (if j == i then w else word_at (bytes_of_words words) j)
word-set words i j w hi hj fits is =
    let there : j < length (slice_set words i w) = subst (λ n. j < n) (sym (length-set words i w)) hj in
    word_is (slice_set words i w) j there (IsWords-set words i w fits is).fit
    ∙ ⊎_elim
    (λ (same : j ≡ i). rw (same, eq-eqb i i refl) (get_or-set_same words i w 0 hi))
    (λ (other : j ≢ i). rw (ne_eqb j i other) (get_or-set_other words i j w 0 other ∙ sym (word_is words j hj is.fit)))
    (cases_eq j i)
