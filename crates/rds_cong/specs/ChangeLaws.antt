-- Laws, each proved: proofs in other crates use them. Nothing here has to be believed.
-- A port put into a map or taken out of it, in its bytes and in its words.
use Rattle.std.proofs.Common.{◌≡◌, ◌≢◌, ℕ, ◌-◌, ◌*◌, ◌/◌, ◌%◌, ◌^◌, ◌<◌, ◌≤◌, ◌==◌, ◌&&◌, ◌||◌, not, List, length, slice_index, slice_set, bit_and, bit_or, refl, sym, ap, ◌∙◌, arith, ⊎_elim, w8, w64}
use Rattle.std.proofs.lemmas.Bool.{cases_eq, ne_eqb}
use Rattle.std.proofs.lemmas.List.{get_or-set_same, get_or-set_other, length-set}
use Rattle.std.proofs.lemmas.List.Elements.{All-set}
use Rattle.std.proofs.lemmas.Nat.{or_lt, and_le_l, pow_below}
use Rattle.std.specs.Int.{bit_at, bit_not}
use Rattle.rds_wire.specs.Bytes.{IsBytes}
use Rattle.rds_cong.specs.Map.{has_port, with_port, without_port}
use Rattle.rds_cong.specs.BitLaws.{low_8, low_64, bit-put, bit-taken, bit-put_shifted, bit-taken_shifted}
use Rattle.rds_cong.specs.PortLaws.{has_port-bytes, in_word, same_ports}
use Rattle.rds_cong.specs.WordLaws.{bytes_of_words, length-bytes, IsBytes-bytes}

-- a map with another byte has the bits of that byte there, and its own elsewhere
here : (map : List ℕ) (i q v : ℕ) → i < length map → q / 8 ≡ i → has_port (slice_set map i v) q ≡ (bit_at v (q % 8) == 1)
here map i q v h same =
    ap (λ k. bit_at (slice_index (slice_set map i v) k) (q % 8) == 1) same
    ∙ ap (λ b. bit_at b (q % 8) == 1) (get_or-set_same map i v 0 h)

elsewhere : (map : List ℕ) (i q v : ℕ) → q / 8 ≢ i → has_port (slice_set map i v) q ≡ has_port map q
elsewhere map i q v other = ap (λ b. bit_at b (q % 8) == 1) (get_or-set_other map i (q / 8) v 0 other)

-- a port by its bit in a byte that is known
in_byte : (map : List ℕ) (i q : ℕ) → q / 8 ≡ i → (bit_at (slice_index map i) (q % 8) == 1) ≡ has_port map q
in_byte map i q same = ap (λ k. bit_at (slice_index map k) (q % 8) == 1) (sym same)

-- a port put in
pub has_port-with : (map : List ℕ) (p q : ℕ) → p / 8 < length map → has_port (with_port map p) q ≡ (q == p || has_port map q)
has_port-with map p q h =
    let b = slice_index map (p / 8) in
    ⊎_elim
    (λ (same : q / 8 ≡ p / 8).
    here map (p / 8) q (bit_or b (2 ^ (p % 8))) h same ∙ bit-put b (p % 8) (q % 8)
    ∙ ap (λ t. t || (bit_at b (q % 8) == 1)) (low_8 q p same) ∙ ap (λ t. q == p || t) (in_byte map (p / 8) q same))
    (λ (other : q / 8 ≢ p / 8).
    let isnt : q ≢ p = λ e. other (ap (λ n. n / 8) e) in
    elsewhere map (p / 8) q (bit_or b (2 ^ (p % 8))) other ∙ rw (ne_eqb q p isnt) refl)
    (cases_eq (q / 8) (p / 8))

-- a port taken out
pub has_port-without : (map : List ℕ) (p q : ℕ) → p / 8 < length map
    → has_port (without_port map p) q ≡ (not (q == p) && has_port map q)
has_port-without map p q h =
    let b = slice_index map (p / 8) in
    ⊎_elim
    (λ (same : q / 8 ≡ p / 8).
    here map (p / 8) q (bit_and b (255 - 2 ^ (p % 8))) h same ∙ bit-taken w8 b (p % 8) (q % 8) (omega arith) (omega arith)
    ∙ ap (λ t. not t && (bit_at b (q % 8) == 1)) (low_8 q p same) ∙ ap (λ t. not (q == p) && t) (in_byte map (p / 8) q same))
    (λ (other : q / 8 ≢ p / 8).
    let isnt : q ≢ p = λ e. other (ap (λ n. n / 8) e) in
    elsewhere map (p / 8) q (bit_and b (255 - 2 ^ (p % 8))) other ∙ rw (ne_eqb q p isnt) refl)
    (cases_eq (q / 8) (p / 8))

-- each is still a byte
IsBytes-with : (map : List ℕ) (p : ℕ) → p / 8 < length map → IsBytes map → IsBytes (with_port map p)
IsBytes-with map p h small =
    let below : 2 ^ (p % 8) < 2 ^ 8 = pow_below (p % 8) 8 (omega arith) in
    All-set (λ b. b < 256) map (p / 8) _ (or_lt 8 (slice_index map (p / 8)) (2 ^ (p % 8)) (small (p / 8) 0 h) below) small

IsBytes-without : (map : List ℕ) (p : ℕ) → p / 8 < length map → IsBytes map → IsBytes (without_port map p)
IsBytes-without map p h small =
    let b : slice_index map (p / 8) < 256 = small (p / 8) 0 h in
    let c : bit_and (slice_index map (p / 8)) (255 - 2 ^ (p % 8)) ≤ slice_index map (p / 8) = and_le_l (slice_index map (p / 8)) (255 - 2 ^ (p % 8)) in
    All-set (λ b. b < 256) map (p / 8) _ (omega arith) small

-- Words of which one is changed have the bytes of a map where that has the ports of the changed word, and else the ports
-- of the words as they were.
pub bytes-changed : (words : List ℕ) (i word : ℕ) (map : List ℕ) → i < length words
    → length map ≡ length (bytes_of_words words) → IsBytes map
    → ((q : ℕ) → q / 64 ≡ i → has_port map q ≡ (bit_at word (q % 64) == 1))
    → ((q : ℕ) → q / 64 ≢ i → has_port map q ≡ has_port (bytes_of_words words) q)
    → bytes_of_words (slice_set words i word) ≡ map
bytes-changed words i word map h long small inside outside =
    let new = slice_set words i word in
    let n : length (bytes_of_words new) ≡ length map = length-bytes new ∙ ap (λ k. 8 * k) (length-set words i word) ∙ sym (length-bytes words) ∙ sym long in
    same_ports (bytes_of_words new) map n (IsBytes-bytes new) small (λ q. has_port-bytes new q ∙ ⊎_elim
    (λ (same : q / 64 ≡ i).
    ap (λ b. bit_at b (q % 64) == 1) (ap (slice_index new) same ∙ get_or-set_same words i word 0 h) ∙ sym (inside q same))
    (λ (other : q / 64 ≢ i).
    ap (λ b. bit_at b (q % 64) == 1) (get_or-set_other words i (q / 64) word 0 other)
    ∙ sym (has_port-bytes words q) ∙ sym (outside q other))
    (cases_eq (q / 64) i))

byte_within : (words : List ℕ) (p : ℕ) → p / 64 < length words → p / 8 < length (bytes_of_words words)
byte_within words p h = let n : length (bytes_of_words words) ≡ 8 * length words = length-bytes words in omega arith

-- a port is put into words
pub bytes-put : (words : List ℕ) (p : ℕ) → p / 64 < length words
    → bytes_of_words (slice_set words (p / 64) (bit_or (slice_index words (p / 64)) (1 * 2 ^ (p % 64) % 2 ^ 64))) ≡ with_port (bytes_of_words words) p
bytes-put words p h =
    let w = slice_index words (p / 64) in
    let map = bytes_of_words words in
    let place : p / 8 < length map = byte_within words p h in
    bytes-changed words (p / 64) (bit_or w (1 * 2 ^ (p % 64) % 2 ^ 64)) (with_port map p) h (length-set map (p / 8) _)
    (IsBytes-with map p place (IsBytes-bytes words))
    (λ q same.
    has_port-with map p q place ∙ ap (λ t. t || has_port map q) (sym (low_64 q p same))
    ∙ ap (λ t. q % 64 == p % 64 || t) (in_word words (p / 64) q same) ∙ sym (bit-put_shifted w (p % 64) (q % 64) (omega arith)))
    (λ q other.
    let isnt : q ≢ p = λ e. other (ap (λ n. n / 64) e) in has_port-with map p q place ∙ rw (ne_eqb q p isnt) refl)

-- a port is taken out of words
pub bytes-taken : (words : List ℕ) (p : ℕ) → p / 64 < length words
    → bytes_of_words (slice_set words (p / 64) (bit_and (slice_index words (p / 64)) (bit_not w64 (1 * 2 ^ (p % 64) % 2 ^ 64)))) ≡ without_port (bytes_of_words words) p
bytes-taken words p h =
    let w = slice_index words (p / 64) in
    let map = bytes_of_words words in
    let place : p / 8 < length map = byte_within words p h in
    bytes-changed words (p / 64) (bit_and w (bit_not w64 (1 * 2 ^ (p % 64) % 2 ^ 64))) (without_port map p) h (length-set map (p / 8) _)
    (IsBytes-without map p place (IsBytes-bytes words))
    (λ q same.
    has_port-without map p q place ∙ ap (λ t. not t && has_port map q) (sym (low_64 q p same))
    ∙ ap (λ t. not (q % 64 == p % 64) && t) (in_word words (p / 64) q same)
    ∙ sym (bit-taken_shifted w (p % 64) (q % 64) (omega arith) (omega arith)))
    (λ q other.
    let isnt : q ≢ p = λ e. other (ap (λ n. n / 64) e) in has_port-without map p q place ∙ rw (ne_eqb q p isnt) refl)
