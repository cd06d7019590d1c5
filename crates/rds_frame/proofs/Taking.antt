-- One piece, by the fields.
use Rattle.std.proofs.Common.{◌≡◌, ℕ, ◌+◌, ◌-◌, ◌<◌, ◌≤◌, ◌⊎◌, min, List, [], ◌++◌, length, take, drop, Option, Some, None, true, false, is_some, IfSome, refl, sym, ap, ◌∙◌, subst, arith, inl, inr, append_assoc, length-append, length-drop}
use Rattle.std.proofs.lemmas.Bool.{cases_lt}
use Rattle.std.proofs.lemmas.List.{append-nil, length-take-le, take_all, take-append-drop}
use Rattle.std.proofs.Math.Seq.{take-add}
use Rattle.rds_wire.specs.declared.header.Header.{Header}
use Rattle.rds_wire.specs.declared.frame.Frame.{Frame}
use Rattle.rds_wire.specs.declared.kind.Malformed.{Malformed}
use Rattle.rds_wire.specs.Bytes.{frame_bytes, header_bytes, IsHeader}
use Rattle.rds_wire.specs.Kinds.{cause}
use Rattle.rds_wire.specs.HeaderLaws.{header_bytes-append, header_bytes-injective, length-header_bytes}
use Rattle.rds_wire.specs.CauseLaws.{len-cause}
use Rattle.rds_frame.specs.Splitting.{IsClear, IsFrame}
use Rattle.rds_frame.specs.Holding.{SplitterView, held_bytes, HoldsAtMostOneFrame}
use Rattle.rds_frame.specs.Fields.{IsLastFrame, IsLastHeader, IsSplitter}
use Rattle.rds_frame.specs.Taking.{RefusesPiece, TakesPiece}
use Rattle.rds_frame.proofs.Keeping.{held_of}

-- the front of the piece was put after the part of a header that came before
pub record Filled (head : List ℕ) (came : ℕ) (piece : List ℕ) (filled : List ℕ) (n : ℕ) : Type 0 where
  pub used : n ≡ min (48 - came) (length piece)
  pub bytes : take (came + n) filled ≡ take came head ++ take n piece
  pub len : length filled ≡ 48

-- what is said of a value holds where there is none
if_none : {X : Type 0} (P : X → Type 0) (o : Option X) → o ≡ None → IfSome o P
if_none P None none = tt
if_none P (Some x) none = cc

-- a splitter with these fields that is neither closed nor has a frame
pub record IsOpen (old : SplitterView) (head : List ℕ) (came : ℕ) (body : List ℕ) (waiting : Option Frame) (refused : Option Header) : Type 0 where
  pub keeps : IsSplitter head came body waiting refused
  pub view_is : held_of head came body waiting refused ≡ old
  pub none_waits : waiting ≡ None
  pub still_open : refused ≡ None

-- the header isn't whole yet
pub Takes-early : (old : SplitterView) (head : List ℕ) (came : ℕ) (body : List ℕ) (waiting : Option Frame) (refused : Option Header)
    → (highest known : ℕ) (piece filled : List ℕ) (n : ℕ)
    → IsOpen old head came body waiting refused → Filled head came piece filled n → came + n < 48
    → TakesPiece highest known old piece (record { used = n; ready = false }) (held_of filled (came + n) body waiting refused)
Takes-early old head came body waiting refused highest known piece filled n is fill early =
    let empty : body ≡ [] = is.keeps.early (omega arith) in
    let whole : n ≡ length piece = omega (arith, fill.used) in
    let len : length (take (came + n) filled) ≡ came + n = length-take-le (came + n) filled (omega (arith, fill.len)) in
    let old_bytes : held_bytes old ≡ take came head =
    sym (ap held_bytes is.view_is) ∙ (λ i. held_bytes (held_of head came (empty i) (is.none_waits i) refused)) ∙ append-nil (take came head) in
    let new_bytes : held_bytes (held_of filled (came + n) body waiting refused) ≡ take (came + n) filled =
    (λ i. held_bytes (held_of filled (came + n) (empty i) (is.none_waits i) refused)) ∙ append-nil (take (came + n) filled) in
    record {
      used = omega (arith, whole);
      bytes = new_bytes ∙ fill.bytes ∙ (λ i. sym old_bytes i ++ take n piece);
      ready = sym (λ i. is_some (is.none_waits i));
      all = λ _. whole;
      progress = λ none ready. cc;
      clear = λ short h more fits same.
          let lens = ap length (sym new_bytes ∙ same) ∙ length-append (header_bytes h) more in
          absurd (omega (arith, lens, length-header_bytes h fits, len));
      still_open = is.still_open;
    }

-- where a header is whole, as many bytes as it lacked were taken
filled-whole : (head : List ℕ) (came : ℕ) (piece filled : List ℕ) (n : ℕ)
    → Filled head came piece filled n → came ≤ 48 → 48 ≤ came + n → filled ≡ take came head ++ take n piece
filled-whole head came piece filled n fill fits late =
    let sum : came + n ≡ 48 = omega (arith, fill.used) in
    sym (take_all 48 filled (omega (arith, fill.len))) ∙ ap (λ k. take k filled) (sym sum) ∙ fill.bytes

-- one that was whole before is as it was
filled-same : (head : List ℕ) (came : ℕ) (piece filled : List ℕ) (n : ℕ)
    → Filled head came piece filled n → length head ≡ 48 → came ≡ 48 → filled ≡ head
filled-same head came piece filled n fill len full =
    let none : n ≡ 0 = omega (arith, fill.used) in
    filled-whole head came piece filled n fill (omega arith) (omega arith)
    ∙ (λ i. take (full i) head ++ take (none i) piece)
    ∙ append-nil (take 48 head)
    ∙ take_all 48 head (omega arith)

-- what is known of a whole header before its payload is looked at
pub record IsPassed (highest known came : ℕ) (body : List ℕ) (d : Header) : Type 0 where
  pub limit : d.len ≤ 1048576
  pub within : length body ≤ d.len
  pub short : came ≡ 48 → length body < d.len
  pub clear : came < 48 → cause d highest known ≡ None

pub IsPassed-whole : (old : SplitterView) (head : List ℕ) (came : ℕ) (body : List ℕ) (waiting : Option Frame) (refused : Option Header)
    → (highest known : ℕ) (piece filled : List ℕ) (n : ℕ) (d : Header)
    → IsOpen old head came body waiting refused → Filled head came piece filled n → 48 ≤ came + n
    → header_bytes d ≡ filled → IsHeader d → (came < 48 → cause d highest known ≡ None)
    → IsPassed highest known came body d
IsPassed-whole old head came body waiting refused highest known piece filled n d is fill late bytes fits clear = elim (cases_lt came 48) [
  | inl short ↦
      let empty : body ≡ [] = is.keeps.early short in
      record {
        limit = len-cause d highest known (clear short);
        within = omega (arith, ap length empty);
        short = λ full. absurd (omega arith);
        clear = clear;
      }
  | inr full ↦
      let at : came ≡ 48 = omega (arith, is.keeps.came_fits) in
      let announces = is.keeps.whole at is.still_open in
      let same : announces.header ≡ d =
      header_bytes-injective announces.header d announces.fits fits
      (announces.bytes ∙ sym (filled-same head came piece filled n fill is.keeps.len at) ∙ sym bytes) in
      let len : announces.header.len ≡ d.len = ap (λ (h : Header). h.len) same in
      record {
        limit = omega (arith, len, announces.limit);
        within = omega (arith, len, announces.short);
        short = λ _. omega (arith, len, announces.short);
        clear = λ early. absurd (omega arith);
      }
]

-- the piece ends before the payload does
pub Keeps-part : (old : SplitterView) (head : List ℕ) (came : ℕ) (body : List ℕ) (waiting : Option Frame) (refused : Option Header)
    → (highest known : ℕ) (piece filled grown : List ℕ) (n : ℕ) (d : Header)
    → IsOpen old head came body waiting refused → Filled head came piece filled n
    → header_bytes d ≡ filled → IsHeader d → IsPassed highest known came body d
    → grown ≡ body ++ drop n piece → length body + length (drop n piece) < d.len
    → IsSplitter filled 48 grown waiting refused
Keeps-part old head came body waiting refused highest known piece filled grown n d is fill bytes fits passed grows short = record {
  len = fill.len;
  came_fits = omega arith;
  early = λ early. absurd (omega arith);
  whole = λ _ _. record {
    header = d;
    fits = fits;
    bytes = bytes;
    short = omega (arith, ap length grows ∙ length-append body (drop n piece));
    limit = passed.limit;
  };
  frame = if_none (IsLastFrame 48 refused) waiting is.none_waits;
  header = if_none (IsLastHeader filled 48 grown) refused is.still_open;
}

-- the payload is whole
pub Keeps-frame : (old : SplitterView) (head : List ℕ) (came : ℕ) (body : List ℕ) (waiting : Option Frame) (refused : Option Header)
    → (piece filled rest payload : List ℕ) (n : ℕ) (d : Header)
    → IsOpen old head came body waiting refused → Filled head came piece filled n
    → IsHeader d → length body ≤ d.len → rest ≡ [] → payload ≡ body ++ take (d.len - length body) (drop n piece)
    → d.len ≤ length body + length (drop n piece)
    → IsSplitter filled 0 rest (Some (record { header = d; payload = payload })) refused
Keeps-frame old head came body waiting refused piece filled rest payload n d is fill fits within empty whole enough = record {
  len = fill.len;
  came_fits = omega arith;
  early = λ _. empty;
  whole = λ full. absurd (omega arith);
  frame = (
    record {
      header = fits;
      payload = omega (arith, ap length whole ∙ length-append body (take (d.len - length body) (drop n piece)), length-take-le (d.len - length body) (drop n piece) (omega arith));
    },
    refl,
    is.still_open,
  );
  header = if_none (IsLastHeader filled 0 rest) refused is.still_open;
}

-- the header is refused
pub Keeps-refused : (old : SplitterView) (head : List ℕ) (came : ℕ) (body : List ℕ) (waiting : Option Frame) (refused : Option Header)
    → (piece filled : List ℕ) (n : ℕ) (d : Header)
    → IsOpen old head came body waiting refused → Filled head came piece filled n → came < 48
    → header_bytes d ≡ filled → IsHeader d
    → IsSplitter filled 48 body waiting (Some d)
Keeps-refused old head came body waiting refused piece filled n d is fill early bytes fits = record {
  len = fill.len;
  came_fits = omega arith;
  early = λ early. absurd (omega arith);
  whole = λ _ still. cc;
  frame = if_none (IsLastFrame 48 (Some d)) waiting is.none_waits;
  header = (fits, bytes, refl, is.keeps.early early);
}

-- nothing of the payload was taken where there is no memory
pub Keeps-failed : (old : SplitterView) (head : List ℕ) (came : ℕ) (body : List ℕ) (waiting : Option Frame) (refused : Option Header)
    → (piece filled kept : List ℕ) (n : ℕ)
    → IsOpen old head came body waiting refused → Filled head came piece filled n → kept ≡ body
    → IsSplitter filled came kept waiting refused
Keeps-failed old head came body waiting refused piece filled kept n is fill same = record {
  len = fill.len;
  came_fits = is.keeps.came_fits;
  early = λ early. same ∙ is.keeps.early early;
  whole = λ full still.
      let announces = is.keeps.whole full still in
      record {
        header = announces.header;
        fits = announces.fits;
        bytes = announces.bytes ∙ sym (filled-same head came piece filled n fill is.keeps.len full);
        short = omega (arith, ap length same, announces.short);
        limit = announces.limit;
      };
  frame = is.keeps.frame;
  header = if_none (IsLastHeader filled came kept) refused is.still_open;
}

-- what is held starts with the part of a header that came
held-open : (old : SplitterView) (head : List ℕ) (came : ℕ) (body : List ℕ) (waiting : Option Frame) (refused : Option Header)
    → IsOpen old head came body waiting refused → held_bytes old ≡ take came head ++ body
held-open old head came body waiting refused is =
    sym (ap held_bytes is.view_is) ∙ (λ i. held_bytes (held_of head came body (is.none_waits i) refused))

-- so fewer bytes than a header has are held only where no header is whole
early-held : (old : SplitterView) (head : List ℕ) (came : ℕ) (body : List ℕ) (waiting : Option Frame) (refused : Option Header)
    → IsOpen old head came body waiting refused → length (held_bytes old) < 48 → came < 48
early-held old head came body waiting refused is short =
    let len : length (take came head) ≡ came = length-take-le came head (omega (arith, is.keeps.len, is.keeps.came_fits)) in
    omega (arith, short, len, ap length (held-open old head came body waiting refused is), length-append (take came head) body)

-- bytes that begin with a header without fault
clear-of : (highest known : ℕ) (bytes : List ℕ) (d : Header) (rest : List ℕ)
    → IsHeader d → bytes ≡ header_bytes d ++ rest → cause d highest known ≡ None → IsClear highest known bytes
clear-of highest known bytes d rest fits are none h more fits_h same =
    let one = header_bytes-append h d more rest fits_h fits (sym same ∙ are) in
    subst (λ (g : Header). cause g highest known ≡ None) (sym one.0) none

-- the front of a piece ends a header, or the header was whole before
seam : (a body p q : List ℕ) → (body ≡ []) ⊎ (p ≡ []) → (a ++ p) ++ (body ++ q) ≡ (a ++ body) ++ (p ++ q)
seam a body p q (inl empty) =
    (λ i. (a ++ p) ++ (empty i ++ q))
    ∙ append_assoc a p q
    ∙ (λ i. sym (append-nil a) i ++ (p ++ q))
    ∙ (λ i. (a ++ sym empty i) ++ (p ++ q))
seam a body p q (inr empty) =
    (λ i. (a ++ empty i) ++ (body ++ q))
    ∙ (λ i. append-nil a i ++ (body ++ q))
    ∙ sym (append_assoc a body q)
    ∙ (λ i. (a ++ body) ++ (sym empty i ++ q))

-- which of the two it is
seam-case : (old : SplitterView) (head : List ℕ) (came : ℕ) (body : List ℕ) (waiting : Option Frame) (refused : Option Header) (piece filled : List ℕ) (n : ℕ)
    → IsOpen old head came body waiting refused → Filled head came piece filled n → (body ≡ []) ⊎ (take n piece ≡ [])
seam-case old head came body waiting refused piece filled n is fill = elim (cases_lt came 48) [
  | inl short ↦ inl (is.keeps.early short)
  | inr full ↦ let none : n ≡ 0 = omega (arith, fill.used) in inr (ap (λ k. take k piece) none)
]

pub Takes-part : (old : SplitterView) (head : List ℕ) (came : ℕ) (body : List ℕ) (waiting : Option Frame) (refused : Option Header)
    → (highest known : ℕ) (piece filled grown : List ℕ) (n : ℕ) (d : Header)
    → IsOpen old head came body waiting refused → Filled head came piece filled n → 48 ≤ came + n
    → header_bytes d ≡ filled → IsHeader d → IsPassed highest known came body d → grown ≡ body ++ drop n piece
    → TakesPiece highest known old piece (record { used = length piece; ready = false })
    (held_of filled 48 grown waiting refused)
Takes-part old head came body waiting refused highest known piece filled grown n d is fill late bytes fits passed grows =
    let old_bytes = held-open old head came body waiting refused is in
    let whole : take 48 filled ≡ filled = take_all 48 filled (omega (arith, fill.len)) in
    let new_bytes : held_bytes (held_of filled 48 grown waiting refused) ≡ filled ++ grown =
    (λ i. held_bytes (held_of filled 48 grown (is.none_waits i) refused)) ∙ (λ i. whole i ++ grown) in
    let all : take (length piece) piece ≡ piece = take_all (length piece) piece (omega arith) in
    record {
      used = omega arith;
      bytes =
          new_bytes
          ∙ (λ i. filled-whole head came piece filled n fill is.keeps.came_fits late i ++ grows i)
          ∙ seam (take came head) body (take n piece) (drop n piece) (seam-case old head came body waiting refused piece filled n is fill)
          ∙ (λ i. sym old_bytes i ++ (take-append-drop n piece ∙ sym all) i);
      ready = sym (λ i. is_some (is.none_waits i));
      all = λ _. refl;
      progress = λ none ready. cc;
      clear = λ short.
          clear-of highest known (held_bytes (held_of filled 48 grown waiting refused)) d grown fits (new_bytes ∙ (λ i. sym bytes i ++ grown))
          (passed.clear (early-held old head came body waiting refused is short));
      still_open = is.still_open;
    }

pub Takes-frame : (old : SplitterView) (head : List ℕ) (came : ℕ) (body : List ℕ) (waiting : Option Frame) (refused : Option Header)
    → (highest known : ℕ) (piece filled rest payload : List ℕ) (n had : ℕ) (d : Header)
    → IsOpen old head came body waiting refused → Filled head came piece filled n → 48 ≤ came + n
    → header_bytes d ≡ filled → IsHeader d → IsPassed highest known came body d → had ≡ length body
    → rest ≡ [] → payload ≡ body ++ take (d.len - length body) (drop n piece) → d.len ≤ length body + length (drop n piece)
    → TakesPiece highest known old piece (record { used = n + (d.len - had); ready = true })
    (held_of filled 0 rest (Some (record { header = d; payload = payload })) refused)
Takes-frame old head came body waiting refused highest known piece filled rest payload n had d is fill late bytes fits passed had_is empty whole enough =
    let missing : ℕ = d.len - length body in
    let used : n + (d.len - had) ≡ n + missing = omega (arith, had_is) in
    let old_bytes = held-open old head came body waiting refused is in
    let f : Frame = record { header = d; payload = payload } in
    let new_bytes : held_bytes (held_of filled 0 rest (Some f) refused) ≡ header_bytes d ++ payload =
    (λ i. frame_bytes f ++ empty i) ∙ append-nil (frame_bytes f) in
    let dropped = length-drop n piece in
    record {
      used = omega (arith, used, dropped, enough, passed.within, fill.used);
      bytes =
          new_bytes
          ∙ (λ i. (bytes ∙ filled-whole head came piece filled n fill is.keeps.came_fits late) i ++ whole i)
          ∙ seam (take came head) body (take n piece) (take missing (drop n piece)) (seam-case old head came body waiting refused piece filled n is fill)
          ∙ (λ i. sym old_bytes i ++ (sym (take-add n missing piece) ∙ ap (λ k. take k piece) (sym used)) i);
      ready = refl;
      all = λ no. cc;
      progress = λ none ready. elim (cases_lt came 48) [
        | inl early ↦ omega (arith, late, early)
        | inr full ↦
            let at : came ≡ 48 = omega (arith, is.keeps.came_fits) in
            omega (arith, used, passed.short at)
      ];
      clear = λ short.
          clear-of highest known (held_bytes (held_of filled 0 rest (Some f) refused)) d payload fits new_bytes
          (passed.clear (early-held old head came body waiting refused is short));
      still_open = is.still_open;
    }

pub Refuses-header : (old : SplitterView) (head : List ℕ) (came : ℕ) (body : List ℕ) (waiting : Option Frame) (refused : Option Header)
    → (highest known : ℕ) (piece filled : List ℕ) (n : ℕ) (d : Header) (fault : Malformed)
    → IsOpen old head came body waiting refused → Filled head came piece filled n → 48 ≤ came + n → came < 48
    → header_bytes d ≡ filled → IsHeader d → cause d highest known ≡ Some fault
    → RefusesPiece highest known old piece fault (held_of filled 48 body waiting (Some d))
Refuses-header old head came body waiting refused highest known piece filled n d fault is fill late early bytes fits faulty =
    let empty : body ≡ [] = is.keeps.early early in
    let len : length (take came head) ≡ came = length-take-le came head (omega (arith, is.keeps.len)) in
    let old_bytes : held_bytes old ≡ take came head =
    held-open old head came body waiting refused is ∙ (λ i. take came head ++ empty i) ∙ append-nil (take came head) in
    let lens = ap length old_bytes in
    let lacked : n ≡ 48 - length (held_bytes old) = omega (arith, lens, len, fill.used) in
    let whole : take 48 filled ≡ filled = take_all 48 filled (omega (arith, fill.len)) in
    record {
      header = d;
      fits = fits;
      cause = faulty;
      short = omega (arith, lens, len);
      bytes =
          bytes ∙ filled-whole head came piece filled n fill is.keeps.came_fits late
          ∙ (λ i. sym old_bytes i ++ take (lacked i) piece);
      after =
          (λ i. held_of filled 48 (empty i) (is.none_waits i) (Some d))
          ∙ (λ i. record { rest = (append-nil (take 48 filled) ∙ whole ∙ sym bytes) i; waiting = None; refused = Some d });
    }

-- a frame that waits has a header at least
waiting-whole : (held : SplitterView) (f : Frame) → IsFrame f → held ≡ record { rest = []; waiting = Some f; refused = None }
    → 48 ≤ length (held_bytes held)
waiting-whole held f is same =
    let lens = ap length (ap held_bytes same ∙ append-nil (frame_bytes f)) in
    omega (arith, lens, length-append (header_bytes f.header) f.payload, length-header_bytes f.header is.header)

-- nothing is taken where a frame waits
pub Takes-nothing : (highest known : ℕ) (old : SplitterView) (piece : List ℕ) → HoldsAtMostOneFrame old → is_some old.waiting ≡ true
    → TakesPiece highest known old piece (record { used = 0; ready = true }) old
Takes-nothing highest known old piece held waits = from-waiting old.waiting refl waits held.waiting where
  from-waiting : (o : Option Frame) → old.waiting ≡ o → is_some o ≡ true
      → IfSome o (λ f. IsFrame f × (old ≡ record { rest = []; waiting = Some f; refused = None }))
      → TakesPiece highest known old piece (record { used = 0; ready = true }) old
  from-waiting None is waits_too alone = cc
  from-waiting (Some f) is waits_too alone = record {
    used = omega arith;
    bytes = sym (append-nil (held_bytes old));
    ready = sym waits;
    all = λ no. cc;
    progress = λ none ready. cc;
    clear = λ short. let long = waiting-whole old f alone.0 alone.1 in absurd (omega arith);
    still_open = ap (λ (h : SplitterView). h.refused) alone.1;
  }

-- the frame that waited was handed out
pub Keeps-done : (head : List ℕ) (came : ℕ) (body : List ℕ) (waiting left : Option Frame) (refused : Option Header)
    → IsSplitter head came body waiting refused → left ≡ None → IsSplitter head came body left refused
Keeps-done head came body waiting left refused keeps none = record {
  len = keeps.len;
  came_fits = keeps.came_fits;
  early = keeps.early;
  whole = keeps.whole;
  frame = if_none (IsLastFrame came refused) left none;
  header = keeps.header;
}
