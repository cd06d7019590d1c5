-- The sum of a header's words, by its fields.
use Rattle.std.proofs.Common.{◌≡◌, ℕ, ◌+◌, ◌*◌, ◌<◌, ◌^◌, List, ◌++◌, length, take, drop, refl, sym, ap, ◌∙◌, arith, append_assoc, length-drop}
use Rattle.std.proofs.lemmas.List.{length-take-le, take-append-drop}
use Rattle.byteorder.specs.Endian.{big_bytes, big_number}
use Rattle.rds_wire.specs.declared.header.Header.{Header}
use Rattle.rds_wire.specs.Bytes.{header_bytes, folded, word_sum}
use Rattle.rds_wire.proofs.Folding.{folded-add, folded-number, folded-words, word_sum-append}

-- ten lists of whole words, one after another
word_sum-ten : (a b c d e f g h i j : List ℕ)
    → length a ≡ 8 → length b ≡ 8 → length c ≡ 4 → length d ≡ 2 → length e ≡ 2 → length f ≡ 2 → length g ≡ 4 → length h ≡ 2 → length i ≡ 8
    → word_sum (a ++ (b ++ (c ++ (d ++ (e ++ (f ++ (g ++ (h ++ (i ++ j)))))))))
    ≡ word_sum a + (word_sum b + (word_sum c + (word_sum d + (word_sum e + (word_sum f + (word_sum g + (word_sum h + (word_sum i + word_sum j))))))))
word_sum-ten a b c d e f g h i j la lb lc ld le lf lg lh li =
    let after_h : List ℕ = i ++ j in
    let after_g : List ℕ = h ++ after_h in
    let after_f : List ℕ = g ++ after_g in
    let after_e : List ℕ = f ++ after_f in
    let after_d : List ℕ = e ++ after_e in
    let after_c : List ℕ = d ++ after_d in
    let after_b : List ℕ = c ++ after_c in
    let after_a : List ℕ = b ++ after_b in
    word_sum-append 4 a after_a la
    ∙ ap (λ n. word_sum a + n) (word_sum-append 4 b after_b lb
    ∙ ap (λ n. word_sum b + n) (word_sum-append 2 c after_c lc
    ∙ ap (λ n. word_sum c + n) (word_sum-append 1 d after_d ld
    ∙ ap (λ n. word_sum d + n) (word_sum-append 1 e after_e le
    ∙ ap (λ n. word_sum e + n) (word_sum-append 1 f after_f lf
    ∙ ap (λ n. word_sum f + n) (word_sum-append 2 g after_g lg
    ∙ ap (λ n. word_sum g + n) (word_sum-append 1 h after_h lh
    ∙ ap (λ n. word_sum h + n) (word_sum-append 4 i j li))))))))

-- the words of a header without checksum, by its fields
pub record Fits (h : Header) : Type 0 where
  pub sequence : h.sequence < 2 ^ 64
  pub ack : h.ack < 2 ^ 64
  pub len : h.len < 2 ^ 32
  pub sport : h.sport < 2 ^ 16
  pub dport : h.dport < 2 ^ 16
  pub flags : h.flags < 2 ^ 8
  pub credit : h.credit < 2 ^ 8
  pub padding : length h.padding ≡ 4
  pub ext : length h.ext ≡ 16

abbrev pub field_sum : Header → ℕ
field_sum h =
    h.sequence + (h.ack + (h.len + (h.sport + (h.dport + (256 * h.flags + h.credit
    + (big_number 4 h.padding + (0 + (big_number 8 (take 8 h.ext) + big_number 8 (drop 8 h.ext)))))))))

pub folded-header : (h : Header) → Fits h → folded (word_sum (header_bytes (record h { csum = 0 }))) ≡ folded (field_sum h)
unfolding header_bytes
folded-header h fits =
    let front : List ℕ = take 8 h.ext in
    let back : List ℕ = drop 8 h.ext in
    let marks : List ℕ = big_bytes 1 h.flags ++ big_bytes 1 h.credit in
    let tail : h.padding ++ big_bytes 2 0 ++ h.ext ≡ h.padding ++ (big_bytes 2 0 ++ (front ++ back)) =
    append_assoc h.padding (big_bytes 2 0) h.ext ∙ ap (λ (x : List ℕ). h.padding ++ (big_bytes 2 0 ++ x)) (sym (take-append-drop 8 h.ext)) in
    let lists : header_bytes (record h { csum = 0 })
    ≡ big_bytes 8 h.sequence ++ (big_bytes 8 h.ack ++ (big_bytes 4 h.len ++ (big_bytes 2 h.sport ++ (big_bytes 2 h.dport ++ (marks ++ (h.padding ++ (big_bytes 2 0 ++ (front ++ back)))))))) =
    (λ i. big_bytes 8 h.sequence ++ (big_bytes 8 h.ack ++ (big_bytes 4 h.len ++ (big_bytes 2 h.sport ++ (big_bytes 2 h.dport ++ (marks ++ tail i)))))) in
    let sums = word_sum-ten
    (big_bytes 8 h.sequence)
    (big_bytes 8 h.ack)
    (big_bytes 4 h.len)
    (big_bytes 2 h.sport)
    (big_bytes 2 h.dport)
    marks
    h.padding
    (big_bytes 2 0)
    front
    back
    refl
    refl
    refl
    refl
    refl
    refl
    fits.padding
    refl
    (length-take-le 8 h.ext (omega (arith, fits.ext))) in
    let both_marks : word_sum marks ≡ 256 * h.flags + h.credit = omega (arith, fits.flags, fits.credit) in
    ap folded (ap word_sum lists ∙ sums)
    ∙ folded-add _ _ _ _ (folded-number 4 h.sequence fits.sequence)
    (folded-add _ _ _ _ (folded-number 4 h.ack fits.ack)
    (folded-add _ _ _ _ (folded-number 2 h.len fits.len)
    (folded-add _ _ _ _ (folded-number 1 h.sport fits.sport)
    (folded-add _ _ _ _ (folded-number 1 h.dport fits.dport)
    (folded-add _ _ _ _ (ap folded both_marks)
    (folded-add _ _ _ _ (folded-words 2 h.padding fits.padding)
    (folded-add _ _ _ _ refl
    (folded-add _ _ _ _ (folded-words 4 front (length-take-le 8 h.ext (omega (arith, fits.ext))))
    (folded-words 4 back (omega (arith, length-drop 8 h.ext, fits.ext)))))))))))
