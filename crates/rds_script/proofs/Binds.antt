-- Steps that may fail, one after the other.
use Rattle.std.proofs.Common.{◌≡◌, Bool, true, false, cond, Option, Some, None, Result, Ok, Err, refl, inl, inr}
use Rattle.std.specs.Prelude.{◌⊎◌}
use Rattle.std.specs.Option.{ok_or, option_map}
use Rattle.std.specs.Result.{result_ok}
use Rattle.rds_script.specs.Reading.{◌>>=◌}

-- both steps gave a value
pub bind_ok : {A B E : Type 0} (r : Result A E) (f : A → Result B E) (y : B) → (r >>= f) ≡ Ok y → (x : A) × (r ≡ Ok x) × (f x ≡ Ok y)
bind_ok (Ok x) f y e = (x, refl, e)
bind_ok (Err d) f y e = absurd cc

-- the first step failed, or it gave a value and the second failed
pub bind_err : {A B E : Type 0} (r : Result A E) (f : A → Result B E) (d : E) → (r >>= f) ≡ Err d → (r ≡ Err d) ⊎ ((x : A) × (r ≡ Ok x) × (f x ≡ Err d))
bind_err (Ok x) f d e = inr (x, refl, e)
bind_err (Err c) f d e = inl cc

pub or_ok : {A B E : Type 0} (f : A → B) (o : Option A) (d : E) (y : B) → ok_or (option_map f o) d ≡ Ok y → (x : A) × (o ≡ Some x) × (f x ≡ y)
or_ok f (Some x) d y e = (x, refl, cc)
or_ok f None d y e = absurd cc

pub or_err : {A B E : Type 0} (f : A → B) (o : Option A) (d c : E) → ok_or (option_map f o) d ≡ Err c → (o ≡ None) × (d ≡ c)
or_err f (Some x) d c e = absurd cc
or_err f None d c e = (refl, cc)

pub none_from : {A : Type 0} (o : Option A) → ((x : A) → o ≡ Some x → ⊥) → o ≡ None
none_from (Some x) h = absurd (h x refl)
none_from None h = refl

pub ok_is : {A E : Type 0} {x y : A} → ◌≡◌ {A = Result A E} (Ok x) (Ok y) → x ≡ y
ok_is e = cc

pub ok_of : {A E : Type 0} (r : Result A E) (x : A) → result_ok r ≡ Some x → r ≡ Ok x
ok_of (Ok y) x e = cc
ok_of (Err d) x e = absurd cc

-- a test that gave a value
pub guard_some : {A : Type 0} (t : Bool) (x : Option A) (v : A) → cond t x None ≡ Some v → (t ≡ true) × (x ≡ Some v)
guard_some true x v e = (refl, e)
guard_some false x v e = absurd cc

-- which way a test went
pub chosen : {A : Type 0} (t : Bool) (x y v : A) → cond t x y ≡ v → ((t ≡ true) × (x ≡ v)) ⊎ ((t ≡ false) × (y ≡ v))
chosen true x y v e = inl (refl, e)
chosen false x y v e = inr (refl, e)

pub err_is : {A E : Type 0} {x y : E} → ◌≡◌ {A = Result A E} (Err x) (Err y) → x ≡ y
err_is e = cc
