-- What becomes of the queue of orders in a turn: one is taken, or it was found empty, or nothing was done with it.
use Rattle.std.proofs.Common.{◌≡◌, ◌⊎◌, inl, inr, Bool, true, false, refl, sym, ap, subst, ◌∙◌}
use Rattle.rds_model.specs.declared.order.Order.{Order}
use Rattle.rds_mail.specs.Learning.{AllGot}
use Rattle.rds_mail.specs.Passes.{Getter, after_get, after_none}
use Rattle.rds_line.specs.Turns.{FindsNoOrder, LooksForOrder, TakesOrder}

-- one of both, by whether an order was taken
pub took_or_not : {A B : Type 0} (took : Bool) → (took ≡ true → A) → (took ≡ false → B) → A ⊎ B
took_or_not true taken other = inl (taken refl)
took_or_not false taken other = inr (other refl)

-- a look that was counted found the queue empty
pub found_none : {a b c : Getter Order} → b ≡ a → c ≡ after_none b → AllGot b → FindsNoOrder a c
found_none {a} {b} {c} first counted got = (
  counted ∙ ap (λ (h : Getter Order). after_none h) first,
  subst (λ (h : Getter Order). AllGot h) (sym counted) (record { told = got.told; joined = got.joined }),
)

-- the step that takes an order, or finds none, stands between others that don't look at the queue
module _ {a b c d : Getter Order} (first : b ≡ a) (last : d ≡ c) where
  pub takes_wider : TakesOrder b c → TakesOrder a d
  takes_wider t = (t.0, t.1, last ∙ (t.2 ∙ ap (λ (h : Getter Order). after_get h t.0 t.1) first))

  pub finds_wider : FindsNoOrder b c → FindsNoOrder a d
  finds_wider none = (
    last ∙ (none.0 ∙ ap (λ (h : Getter Order). after_none h) first),
    subst (λ (h : Getter Order). AllGot h) (sym last) none.1,
  )

  pub at_most_one : (took : Bool) → (took ≡ true → TakesOrder b c) → (took ≡ false → FindsNoOrder b c) → LooksForOrder a d ⊎ (d ≡ a)
  at_most_one true took none = inl (inl (takes_wider (took refl)))
  at_most_one false took none = inl (inr (finds_wider (none refl)))
