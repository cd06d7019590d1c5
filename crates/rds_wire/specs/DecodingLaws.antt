-- Laws, each proved: proofs in other crates use them. Nothing here has to be believed.
-- The header that 48 bytes show.
use Rattle.std.proofs.Common.{◌≡◌, ℕ, ◌+◌, ◌%◌, ◌<◌, ◌≤◌, ◌^◌, List, [], ◌∷◌, ◌++◌, length, take, drop, get_or, sym, ap, subst, ◌∙◌, arith, inl, inr, length-drop}
use Rattle.std.proofs.lemmas.Bool.{cases_lt}
use Rattle.std.proofs.lemmas.List.{drop_more, get_or_past, length-take-le, take_all}
use Rattle.std.proofs.lemmas.List.Elements.{All-from_get_or, All-get_or, All-take, All-drop}
use Rattle.std.proofs.lemmas.Nat.{be_bytes_2, be_bytes_4, be_bytes_8}
use Rattle.std.proofs.Math.Seq.{take-add}
use Rattle.byteorder.specs.Endian.{big_bytes, big_number}
use Rattle.byteorder.specs.Numbers.{big_from-lt, big_from-take}
use Rattle.rds_wire.specs.declared.header.Header.{Header}
use Rattle.rds_wire.specs.Bytes.{header_bytes, IsHeader, IsBytes}

-- the n bytes from a place
abbrev pub bytes_at : List ℕ → ℕ → ℕ → List ℕ
bytes_at b i n = take n (drop i b)

-- the header that the bytes show
abbrev pub header_of : List ℕ → Header
header_of b = record {
  sequence = big_number 8 (bytes_at b 0 8);
  ack = big_number 8 (bytes_at b 8 8);
  len = big_number 4 (bytes_at b 16 4);
  sport = big_number 2 (bytes_at b 20 2);
  dport = big_number 2 (bytes_at b 22 2);
  flags = get_or b 24 0;
  credit = get_or b 25 0;
  padding = bytes_at b 26 4;
  csum = big_number 2 (bytes_at b 30 2);
  ext = bytes_at b 32 16;
}

-- each place of bytes is below 256, also past the end
pub byte_lt : (b : List ℕ) → IsBytes b → (i : ℕ) → get_or b i 0 < 256
byte_lt b bytes i = elim (cases_lt i (length b)) [
  | inl below ↦ All-get_or (λ x. x < 256) b i 0 below bytes
  | inr past ↦ rw (get_or_past b i 0 past) (omega arith)
]

-- a part has its length, and is of bytes
length-part : (b : List ℕ) (i n : ℕ) → i + n ≤ length b → length (bytes_at b i n) ≡ n
length-part b i n fits = length-take-le n (drop i b) (omega (arith, length-drop i b))

IsBytes-part : (b : List ℕ) (i n : ℕ) → IsBytes b → IsBytes (bytes_at b i n)
IsBytes-part b i n bytes = All-take (λ x. x < 256) n (drop i b) (All-drop (λ x. x < 256) i b bytes)

-- the bytes of the number in 8, 4 or 2 bytes are those bytes
big_bytes-8 : (xs : List ℕ) → length xs ≡ 8 → IsBytes xs → big_bytes 8 (big_number 8 xs) ≡ xs
big_bytes-8 xs len bytes = be_bytes_8 xs (big_number 8 xs) len (byte_lt xs bytes) (omega arith)

big_bytes-4 : (xs : List ℕ) → length xs ≡ 4 → IsBytes xs → big_bytes 4 (big_number 4 xs) ≡ xs
big_bytes-4 xs len bytes = be_bytes_4 xs (big_number 4 xs) len (byte_lt xs bytes) (omega arith)

big_bytes-2 : (xs : List ℕ) → length xs ≡ 2 → IsBytes xs → big_bytes 2 (big_number 2 xs) ≡ xs
big_bytes-2 xs len bytes = be_bytes_2 xs (big_number 2 xs) len (byte_lt xs bytes) (omega arith)

-- the bytes of the number at the front of a list are the front
pub take-number_4 : (xs : List ℕ) (n : ℕ) → 4 ≤ length xs → ((i : ℕ) → get_or xs i 0 < 256) → n ≡ big_number 4 xs → take 4 xs ≡ big_bytes 4 n
take-number_4 xs n fits byte is =
    let bytes : IsBytes (take 4 xs) = All-take (λ x. x < 256) 4 xs (All-from_get_or (λ x. x < 256) xs 0 (λ i below. byte i)) in
    sym (ap (big_bytes 4) (is ∙ sym (big_from-take 0 4 4 xs (omega arith))) ∙ big_bytes-4 (take 4 xs) (length-take-le 4 xs fits) bytes)

pub take-number_2 : (xs : List ℕ) (n : ℕ) → 2 ≤ length xs → ((i : ℕ) → get_or xs i 0 < 256) → n ≡ big_number 2 xs → take 2 xs ≡ big_bytes 2 n
take-number_2 xs n fits byte is =
    let bytes : IsBytes (take 2 xs) = All-take (λ x. x < 256) 2 xs (All-from_get_or (λ x. x < 256) xs 0 (λ i below. byte i)) in
    sym (ap (big_bytes 2) (is ∙ sym (big_from-take 0 2 2 xs (omega arith))) ∙ big_bytes-2 (take 2 xs) (length-take-le 2 xs fits) bytes)

-- the parts of 48 bytes, one after another, are those bytes
parts : (b : List ℕ) → length b ≡ 48
    → bytes_at b 0 8 ++ bytes_at b 8 8 ++ bytes_at b 16 4 ++ bytes_at b 20 2 ++ bytes_at b 22 2 ++ bytes_at b 24 1 ++ bytes_at b 25 1 ++ bytes_at b 26 4 ++ bytes_at b 30 2 ++ bytes_at b 32 16 ≡ b
parts b len =
    let step = λ (n m : ℕ). sym (take-add n m b) in
    (λ i. step 8 8 i ++ bytes_at b 16 4 ++ bytes_at b 20 2 ++ bytes_at b 22 2 ++ bytes_at b 24 1 ++ bytes_at b 25 1 ++ bytes_at b 26 4 ++ bytes_at b 30 2 ++ bytes_at b 32 16)
    ∙ (λ i. step 16 4 i ++ bytes_at b 20 2 ++ bytes_at b 22 2 ++ bytes_at b 24 1 ++ bytes_at b 25 1 ++ bytes_at b 26 4 ++ bytes_at b 30 2 ++ bytes_at b 32 16)
    ∙ (λ i. step 20 2 i ++ bytes_at b 22 2 ++ bytes_at b 24 1 ++ bytes_at b 25 1 ++ bytes_at b 26 4 ++ bytes_at b 30 2 ++ bytes_at b 32 16)
    ∙ (λ i. step 22 2 i ++ bytes_at b 24 1 ++ bytes_at b 25 1 ++ bytes_at b 26 4 ++ bytes_at b 30 2 ++ bytes_at b 32 16)
    ∙ (λ i. step 24 1 i ++ bytes_at b 25 1 ++ bytes_at b 26 4 ++ bytes_at b 30 2 ++ bytes_at b 32 16)
    ∙ (λ i. step 25 1 i ++ bytes_at b 26 4 ++ bytes_at b 30 2 ++ bytes_at b 32 16)
    ∙ (λ i. step 26 4 i ++ bytes_at b 30 2 ++ bytes_at b 32 16)
    ∙ (λ i. step 30 2 i ++ bytes_at b 32 16)
    ∙ step 32 16
    ∙ take_all 48 b (omega arith)

-- one byte
big_bytes-1 : (b : List ℕ) (i : ℕ) → i < length b → IsBytes b → big_bytes 1 (get_or b i 0) ≡ bytes_at b i 1
big_bytes-1 b i fits bytes =
    let byte = byte_lt b bytes i in
    let same : get_or b i 0 % 256 ≡ get_or b i 0 = omega arith in
    (λ k. same k ∷ []) ∙ sym (ap (take 1) (drop_more b i 0 fits))

-- the bytes of that header are the bytes that show it
pub header_bytes-header_of : (b : List ℕ) → length b ≡ 48 → IsBytes b → header_bytes (header_of b) ≡ b
unfolding header_bytes
header_bytes-header_of b len bytes =
    let sequence = big_bytes-8 (bytes_at b 0 8) (length-part b 0 8 (omega arith)) (IsBytes-part b 0 8 bytes) in
    let ack = big_bytes-8 (bytes_at b 8 8) (length-part b 8 8 (omega arith)) (IsBytes-part b 8 8 bytes) in
    let len_of = big_bytes-4 (bytes_at b 16 4) (length-part b 16 4 (omega arith)) (IsBytes-part b 16 4 bytes) in
    let sport = big_bytes-2 (bytes_at b 20 2) (length-part b 20 2 (omega arith)) (IsBytes-part b 20 2 bytes) in
    let dport = big_bytes-2 (bytes_at b 22 2) (length-part b 22 2 (omega arith)) (IsBytes-part b 22 2 bytes) in
    let flags = big_bytes-1 b 24 (omega arith) bytes in
    let credit = big_bytes-1 b 25 (omega arith) bytes in
    let csum = big_bytes-2 (bytes_at b 30 2) (length-part b 30 2 (omega arith)) (IsBytes-part b 30 2 bytes) in
    (λ i. sequence i ++ ack i ++ len_of i ++ sport i ++ dport i ++ flags i ++ credit i ++ bytes_at b 26 4 ++ csum i ++ bytes_at b 32 16)
    ∙ parts b len

-- a number of n bytes is below 256 ^ n
number_lt : (b : List ℕ) (i n : ℕ) → IsBytes b → big_number n (bytes_at b i n) < 256 ^ n
number_lt b i n bytes = big_from-lt 0 n (bytes_at b i n) (byte_lt (bytes_at b i n) (IsBytes-part b i n bytes))

-- its fields fit
pub IsHeader-header_of : (b : List ℕ) → length b ≡ 48 → IsBytes b → IsHeader (header_of b)
IsHeader-header_of b len bytes = record {
  sequence = number_lt b 0 8 bytes;
  ack = number_lt b 8 8 bytes;
  len = number_lt b 16 4 bytes;
  sport = number_lt b 20 2 bytes;
  dport = number_lt b 22 2 bytes;
  flags = byte_lt b bytes 24;
  credit = byte_lt b bytes 25;
  padding = (length-part b 26 4 (omega arith), IsBytes-part b 26 4 bytes);
  csum = number_lt b 30 2 bytes;
  ext = (length-part b 32 16 (omega arith), IsBytes-part b 32 16 bytes);
}

-- what is read from 48 bytes in code, place by place
pub record Shows (b : List ℕ) (h : Header) : Type 0 where
  pub sequence : h.sequence ≡ big_number 8 (bytes_at b 0 8)
  pub ack : h.ack ≡ big_number 8 (bytes_at b 8 8)
  pub len : h.len ≡ big_number 4 (bytes_at b 16 4)
  pub sport : h.sport ≡ big_number 2 (bytes_at b 20 2)
  pub dport : h.dport ≡ big_number 2 (bytes_at b 22 2)
  pub flags : h.flags ≡ get_or b 24 0
  pub credit : h.credit ≡ get_or b 25 0
  pub padding : h.padding ≡ bytes_at b 26 4
  pub csum : h.csum ≡ big_number 2 (bytes_at b 30 2)
  pub ext : h.ext ≡ bytes_at b 32 16

shown : (b : List ℕ) (h : Header) → Shows b h → header_of b ≡ h
shown b h shows = sym (λ i. record {
  sequence = shows.sequence i;
  ack = shows.ack i;
  len = shows.len i;
  sport = shows.sport i;
  dport = shows.dport i;
  flags = shows.flags i;
  credit = shows.credit i;
  padding = shows.padding i;
  csum = shows.csum i;
  ext = shows.ext i;
})

pub header_bytes-shown : (b : List ℕ) (h : Header) → length b ≡ 48 → ((i : ℕ) → get_or b i 0 < 256) → Shows b h
    → (header_bytes h ≡ b) × IsHeader h
header_bytes-shown b h len byte shows =
    let bytes : IsBytes b = All-from_get_or (λ x. x < 256) b 0 (λ i below. byte i) in
    let same = shown b h shows in
    (subst (λ (g : Header). header_bytes g ≡ b) same (header_bytes-header_of b len bytes), subst (λ (g : Header). IsHeader g) same (IsHeader-header_of b len bytes))
