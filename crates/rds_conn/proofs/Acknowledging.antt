-- The messages up to an acknowledged number leave the store one by one, and their bytes are freed.
use Rattle.std.proofs.Common.{◌≡◌, inl, inr, ℕ, zero, suc, ◌+◌, ◌-◌, ◌<◌, ◌≤◌, ◌^◌, ◌==◌, nat_lt, List, [], ◌∷◌, length, take, filter, sum, get_or, refl, sym, ◌∙◌, ap, subst, arith, length-take}
use Rattle.std.specs.Prelude.{All}
use Rattle.std.proofs.lemmas.Bool.{cases_eq, cond-true, cond-false, le-ltb, lt-ltb, ne_eqb, eq-eqb}
use Rattle.std.proofs.lemmas.List.Sums.{sum_by-cons}
use Rattle.std.proofs.lemmas.List.Elements.{All-head, All-tail, All-take}
use Rattle.rds_model.specs.declared.entry.Msg.{Msg}
use Rattle.rds_msgs.specs.Messages.{StoreView, bytes_of, without_first}
use Rattle.rds_conn.specs.Freeing.{with_freed, bytes_of_slot, acknowledged, Frees}
use Rattle.rds_conn.proofs.Totals.{total-cons}
use Rattle.rds_conn.proofs.Charging.{freed_same, freed_other, length-with_freed, sum-with_freed}

pub record Acknowledging (upto : ℕ) (store_first : StoreView) (freed_first : List ℕ) (store : StoreView) (freed : List ℕ) : Type 0 where
  pub same : acknowledged upto store ≡ acknowledged upto store_first
  pub frees : Frees store_first store freed_first freed
  pub marked : store.mark ≤ length store.messages
  pub fits : sum freed_first + bytes_of store_first.messages < 2 ^ 64

pub acknowledging_none : (upto : ℕ) (store : StoreView) (freed : List ℕ) → store.mark ≤ length store.messages →
    sum freed + bytes_of store.messages < 2 ^ 64 → Acknowledging upto store freed store freed
acknowledging_none upto store freed marked fits = record {
  same = refl;
  frees = record { slots = refl; each = λ s within. refl; all = omega arith };
  marked = marked;
  fits = fits;
}

frees_both : (a b c : StoreView) (f g h : List ℕ) → Frees a b f g → Frees b c g h → Frees a c f h
frees_both a b c f g h first second = record {
  slots = second.slots ∙ first.slots;
  each = λ s within. (let inside : s < length g = omega (arith, first.slots, within) in second.each s inside ∙ first.each s within);
  all = omega (arith, first.all, second.all);
}

-- one message leaves
frees_one : (store : StoreView) (freed : List ℕ) (m : Msg) (ms : List Msg) → store.messages ≡ m ∷ ms →
    Frees store (record store { messages = ms; mark = store.mark - 1 }) freed (with_freed m.slot m.len freed)
frees_one store freed m ms is = record {
  slots = length-with_freed m.slot m.len freed;
  each = λ s within.
      let before_is = ap (bytes_of_slot s) is in
      let cut = total-cons (λ (x : Msg). x.len) (λ x. x.slot == s) m ms in
      elim (cases_eq m.slot s) [
        | inl same ↦
            let here = cond-true (m.slot == s) m.len 0 (eq-eqb m.slot s same) in
            let freed_here = ap (λ x. get_or (with_freed m.slot m.len freed) x 0) (sym same) ∙ freed_same m.slot m.len freed (subst (λ x. x < length freed) (sym same) within) in
            let there = ap (λ x. get_or freed x 0) same in
            omega (arith, before_is, cut, here, freed_here, there)
        | inr other ↦
            let here = cond-false (m.slot == s) m.len 0 (ne_eqb m.slot s other) in
            let freed_here = freed_other m.slot s m.len freed (λ e. other (sym e)) in
            omega (arith, before_is, cut, here, freed_here)
      ];
  all =
      let before_is = ap bytes_of is in
      let cut = sum_by-cons (λ (x : Msg). x.len) m ms in
      let more = sum-with_freed m.slot m.len freed in
      omega (arith, before_is, cut, more);
}

-- a first message that is acknowledged doesn't matter
left_first : (upto : ℕ) (m : Msg) (ms : List Msg) → m.num ≤ upto →
    filter (λ (x : Msg). nat_lt upto x.num) (m ∷ ms) ≡ filter (λ (x : Msg). nat_lt upto x.num) ms
left_first upto m ms acked =
    cond-false (nat_lt upto m.num) (m ∷ filter (λ (x : Msg). nat_lt upto x.num) ms) (filter (λ (x : Msg). nat_lt upto x.num) ms) (le-ltb upto m.num acked)

mark_first : (upto mark : ℕ) (m : Msg) (ms : List Msg) → m.num ≤ upto →
    length (filter (λ (x : Msg). nat_lt upto x.num) (take (mark - 1) ms)) ≡ length (filter (λ (x : Msg). nat_lt upto x.num) (take mark (m ∷ ms)))
mark_first upto zero m ms acked = refl
mark_first upto (suc mark) m ms acked =
    let less : suc mark - 1 ≡ mark = omega arith in
    ap (λ n. length (filter (λ (x : Msg). nat_lt upto x.num) (take n ms))) less ∙ sym (ap length (left_first upto m (take mark ms) acked))

same_without : (upto : ℕ) (store : StoreView) (m : Msg) (ms : List Msg) → store.messages ≡ m ∷ ms → m.num ≤ upto →
    acknowledged upto (record store { messages = ms; mark = store.mark - 1 }) ≡ acknowledged upto store
same_without upto store m ms is acked =
    let kept : filter (λ (x : Msg). nat_lt upto x.num) ms ≡ filter (λ (x : Msg). nat_lt upto x.num) store.messages =
    sym (ap (filter (λ (x : Msg). nat_lt upto x.num)) is ∙ left_first upto m ms acked) in
    let mark : length (filter (λ (x : Msg). nat_lt upto x.num) (take (store.mark - 1) ms)) ≡ length (filter (λ (x : Msg). nat_lt upto x.num) (take store.mark store.messages)) =
    mark_first upto store.mark m ms acked ∙ sym (ap (λ (xs : List Msg). length (filter (λ (x : Msg). nat_lt upto x.num) (take store.mark xs))) is) in
    ap (λ (xs : List Msg). record store { messages = xs; mark = length (filter (λ (x : Msg). nat_lt upto x.num) (take (store.mark - 1) ms)) }) kept
    ∙ ap (λ n. record store { messages = filter (λ (x : Msg). nat_lt upto x.num) store.messages; mark = n }) mark

pub acknowledging_more : (upto : ℕ) (store_first : StoreView) (freed_first : List ℕ) (store later : StoreView) (freed : List ℕ) (m : Msg) →
    Acknowledging upto store_first freed_first store freed → store.messages ≡ m ∷ later.messages → m.num ≤ upto → later ≡ without_first store →
    Acknowledging upto store_first freed_first later (with_freed m.slot m.len freed)
acknowledging_more upto store_first freed_first store later freed m so_far is acked after =
    let after_is : later ≡ record store { messages = later.messages; mark = store.mark - 1 } =
    after ∙ ap (λ (xs : List Msg). record store { messages = xs; mark = store.mark - 1 }) (sym (ap (λ (h : StoreView). h.messages) after)) in
    let marked = so_far.marked in
    let many = ap length is in
    let mark_is = ap (λ (h : StoreView). h.mark) after in
    record {
      same = ap (acknowledged upto) after_is ∙ same_without upto store m later.messages is acked ∙ so_far.same;
      frees = frees_both store_first store later freed_first freed (with_freed m.slot m.len freed) so_far.frees
          (subst (λ (h : StoreView). Frees store h freed (with_freed m.slot m.len freed)) (sym after_is) (frees_one store freed m later.messages is));
      marked = omega (arith, marked, many, mark_is);
      fits = so_far.fits;
    }

-- the bytes of the next message fit
pub acknowledging_fits : (upto : ℕ) (store_first : StoreView) (freed_first : List ℕ) (store : StoreView) (freed : List ℕ) (m : Msg) (ms : List Msg) →
    Acknowledging upto store_first freed_first store freed → store.messages ≡ m ∷ ms → sum freed + m.len < 2 ^ 64
acknowledging_fits upto store_first freed_first store freed m ms so_far is =
    let all = so_far.frees.all in
    let fits = so_far.fits in
    let before_is = ap bytes_of is in
    let cut = sum_by-cons (λ (x : Msg). x.len) m ms in
    omega (arith, all, fits, before_is, cut)

-- at the end none is left that is acknowledged
all_left : (upto : ℕ) (ms : List Msg) → All (λ (m : Msg). upto < m.num) ms → filter (λ (m : Msg). nat_lt upto m.num) ms ≡ ms
all_left upto [] above = refl
all_left upto (m ∷ ms) above =
    cond-true (nat_lt upto m.num) (m ∷ filter (λ (x : Msg). nat_lt upto x.num) ms) (filter (λ (x : Msg). nat_lt upto x.num) ms)
    (lt-ltb upto m.num (All-head (λ (x : Msg). upto < x.num) m ms above))
    ∙ ap (λ (xs : List Msg). m ∷ xs) (all_left upto ms (All-tail (λ (x : Msg). upto < x.num) m ms above))

pub acknowledging_all : (upto : ℕ) (store_first : StoreView) (freed_first : List ℕ) (store : StoreView) (freed : List ℕ) →
    Acknowledging upto store_first freed_first store freed → All (λ (m : Msg). upto < m.num) store.messages →
    store ≡ acknowledged upto store_first
acknowledging_all upto store_first freed_first store freed so_far above =
    let kept = all_left upto store.messages above in
    let front = all_left upto (take store.mark store.messages) (All-take (λ (m : Msg). upto < m.num) store.mark store.messages above) in
    let marked = so_far.marked in
    let mark : store.mark ≡ length (filter (λ (m : Msg). nat_lt upto m.num) (take store.mark store.messages)) =
    (let many = length-take store.mark store.messages in let front_is = ap length front in omega (arith, many, front_is, marked)) in
    ap (λ (xs : List Msg). record store { messages = xs }) (sym kept)
    ∙ ap (λ n. record store { messages = filter (λ (m : Msg). nat_lt upto m.num) store.messages; mark = n }) mark
    ∙ so_far.same
