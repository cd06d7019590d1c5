-- A list of bytes that begins with a whole header.
use Rattle.std.proofs.Common.{◌≡◌, ℕ, ◌+◌, ◌<◌, ◌≤◌, List, ◌++◌, length, take, drop, None, Some, sym, ap, subst, ◌∙◌, arith, inr, append_assoc, length-append}
use Rattle.std.proofs.lemmas.List.{drop-drop, length-take-le, take-append-drop}
use Rattle.rds_wire.specs.declared.header.Header.{Header}
use Rattle.rds_wire.specs.declared.kind.Malformed.{Malformed}
use Rattle.rds_wire.specs.Bytes.{frame_bytes, header_bytes, IsHeader}
use Rattle.rds_wire.specs.Kinds.{cause}
use Rattle.rds_wire.specs.HeaderLaws.{header_bytes-append, length-header_bytes}
use Rattle.rds_frame.specs.Splitting.{BeginsMalformed, IsClear, IsPartial, IsSound}

-- the first 48 bytes are those of this header, and the others follow
pub record IsFront (bytes head body : List ℕ) (d : Header) : Type 0 where
  pub head_is : head ≡ take 48 bytes
  pub body_is : body ≡ drop 48 bytes
  pub bytes_are : header_bytes d ≡ head
  pub fits : IsHeader d

front-whole : (bytes head body : List ℕ) (d : Header) → IsFront bytes head body d → bytes ≡ header_bytes d ++ body
front-whole bytes head body d front =
    sym (take-append-drop 48 bytes) ∙ (λ i. sym (front.bytes_are ∙ front.head_is) i ++ sym front.body_is i)

pub BeginsMalformed-front : (highest known : ℕ) (bytes head body : List ℕ) (d : Header) (fault : Malformed)
    → IsFront bytes head body d → cause d highest known ≡ Some fault → BeginsMalformed highest known bytes fault
BeginsMalformed-front highest known bytes head body d fault front faulty = record {
  header = d;
  more = body;
  whole = front-whole bytes head body d front;
  fits = front.fits;
  cause = faulty;
}

pub IsPartial-front : (bytes head body : List ℕ) (d : Header) → IsFront bytes head body d → length body < d.len → IsPartial bytes
IsPartial-front bytes head body d front short = inr (record {
  header = d;
  body = body;
  fits = front.fits;
  bytes_are = front-whole bytes head body d front;
  short = short;
})

pub IsClear-front : (highest known : ℕ) (bytes head body : List ℕ) (d : Header)
    → IsFront bytes head body d → cause d highest known ≡ None → IsClear highest known bytes
IsClear-front highest known bytes head body d front none h more fits same =
    let one = header_bytes-append h d more body fits front.fits (sym same ∙ front-whole bytes head body d front) in
    subst (λ (g : Header). cause g highest known ≡ None) (sym one.0) none

-- fewer bytes than a header has begin with none
pub IsClear-short : (highest known : ℕ) (bytes : List ℕ) → length bytes < 48 → IsClear highest known bytes
IsClear-short highest known bytes short h more fits same =
    absurd (omega (arith, short, ap length same ∙ length-append (header_bytes h) more, length-header_bytes h fits))

pub IsSound-front : (highest known : ℕ) (bytes head body payload : List ℕ) (d : Header)
    → IsFront bytes head body d → cause d highest known ≡ None → d.len ≤ length body → payload ≡ take d.len body
    → IsSound highest known (record { header = d; payload = payload }) × (48 + length payload ≤ length bytes)
    × (bytes ≡ frame_bytes (record { header = d; payload = payload }) ++ drop (48 + length payload) bytes)
IsSound-front highest known bytes head body payload d front none enough is =
    let whole = front-whole bytes head body d front in
    let len : length payload ≡ d.len = ap length is ∙ length-take-le d.len body enough in
    let after : drop (length payload) body ≡ drop (48 + length payload) bytes =
    ap (drop (length payload)) front.body_is ∙ drop-drop (length payload) 48 bytes in
    let cut : payload ≡ take (length payload) body = is ∙ ap (λ n. take n body) (sym len) in (
      record { frame = record { header = front.fits; payload = len }; cause = none },
      omega (arith, ap length whole, length-append (header_bytes d) body, length-header_bytes d front.fits, len),
      whole
          ∙ (λ i. header_bytes d ++ sym (take-append-drop (length payload) body) i)
          ∙ sym (append_assoc (header_bytes d) (take (length payload) body) (drop (length payload) body))
          ∙ (λ i. header_bytes d ++ sym cut i ++ after i),
    )
