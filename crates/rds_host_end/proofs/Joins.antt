-- What joined passes show, by the marks of their putters.
use Rattle.std.proofs.Common.{◌≡◌, ◌⊎◌, ℕ, zero, suc, ◌+◌, ◌≤◌, Bool, true, false, cond, List, [], ◌∷◌, ◌++◌, length, All, Option, Some, None, inl, inr, refl, sym, ap, subst, ◌∙◌, arith}
use Rattle.std.proofs.lemmas.List.{length-append, append-nil}
use Rattle.std.proofs.lemmas.List.Elements.{All-head, All-tail}
use mathlib.Core.Option.{some-injective, some-ne-none}
use Rattle.rds_seats.specs.Views.{At, Each}
use Rattle.rds_model.specs.declared.order.Order.{Order}
use Rattle.rds_model.specs.declared.order.Order.TheVariants as order
use Rattle.rds_model.specs.declared.order.Datagram.{Datagram}
use Rattle.rds_mail.specs.declared.view.Account.{Account}
use Rattle.rds_mail.specs.Numbers.{Number, Numbered, same_number, items_of, bare_items}
use Rattle.rds_mail.specs.Shared.{IsPart}
use Rattle.rds_mail.specs.Merging.{is_key, by_key, IsKeyed, KeysBegin}
use Rattle.rds_socket_parts.specs.Lanes.{IsOf}
use Rattle.rds_host_end.specs.Joins.{slot_of_order, sender_in, IsFrom, AreMarked, PutsAreTold, KeysAre}

each_of_all : {X : Type 0} (P : X → Type 0) (xs : List X) (i : ℕ) (x : X) → At xs i x → All P xs → P x
each_of_all P [] i x at all = absurd (some-ne-none x (sym at))
each_of_all P (y ∷ xs) zero x at all = subst P (some-injective y x at) (All-head P y xs all)
each_of_all P (y ∷ xs) (suc i) x at all = each_of_all P xs i x at (All-tail P y xs all)

pub key_of_slot : (slot : ℕ) (o : Order) → IsOf slot o → (slot_of_order o ≡ None) ⊎ (slot_of_order o ≡ Some slot)
key_of_slot slot (order.Send s sport dport payload) is = inr (ap Some is)
key_of_slot slot (order.Cancel s dport) is = inr (ap Some is)
key_of_slot slot (order.CloseSocket s) is = inr (ap Some is)
key_of_slot slot order.Cut is = inl refl

pub key_of_sender : (host : ℕ) (item : Datagram) → IsFrom host item → (sender_in item ≡ None) ⊎ (sender_in item ≡ Some host)
key_of_sender host item is = inr (ap Some is)

module _ {T : Type 0} (key : T → Option ℕ) where
  pub keyed_of : (Own : ℕ → T → Type 0) (mark : Number → ℕ) (puts : List (Account T)) → ((m : ℕ) (x : T) → Own m x → (key x ≡ None) ⊎ (key x ≡ Some m)) → AreMarked Own mark puts → IsKeyed key mark puts
  keyed_of Own mark puts says k = record {
    own = λ i a at j x at'. says (mark a.number) x (each_of_all (Own (mark a.number)) a.put j x at' (k.own i a at));
    apart = k.apart;
  }

  longer : (b : Bool) (x : T) (xs : List T) → length xs ≤ length (cond b (x ∷ xs) xs)
  longer true x xs = omega arith
  longer false x xs = omega arith

  both_longer : (b : Bool) (x : T) (xs ys : List T) → length xs ≤ length ys → length (cond b (x ∷ xs) xs) ≤ length (cond b (x ∷ ys) ys)
  both_longer true x xs ys l = omega arith
  both_longer false x xs ys l = l

  -- a putter's items with a key are among all with it
  fewer_at : (same : Bool) (m : ℕ) (x : T) (own all : List T) → length (by_key key m own) ≤ length (by_key key m all) → length (by_key key m (cond same (x ∷ own) own)) ≤ length (by_key key m (x ∷ all))
  fewer_at true m x own all l = both_longer (is_key (key x) m) x (by_key key m own) (by_key key m all) l
  fewer_at false m x own all l = let k = longer (is_key (key x) m) x (by_key key m all) in omega arith

  fewer : (m : ℕ) (p : Number) (got : List (Numbered T)) → length (by_key key m (items_of p got)) ≤ length (by_key key m (bare_items got))
  fewer m p [] = omega arith
  fewer m p (e ∷ got) = fewer_at (same_number p e.0) m e.1 (items_of p got) (bare_items got) (fewer m p got)

  chosen : (b : Bool) (x : T) (l m : List T) → cond b (x ∷ (l ++ m)) (l ++ m) ≡ cond b (x ∷ l) l ++ m
  chosen true x l m = refl
  chosen false x l m = refl

  by_key-append : (m : ℕ) (xs ys : List T) → by_key key m (xs ++ ys) ≡ by_key key m xs ++ by_key key m ys
  by_key-append m [] ys = refl
  by_key-append m (x ∷ xs) ys = ap (λ l. cond (is_key (key x) m) (x ∷ l) l) (by_key-append m xs ys) ∙ chosen (is_key (key x) m) x (by_key key m xs) (by_key key m ys)

  none_left : (front rest whole : List T) → whole ≡ front ++ rest → length whole ≤ length front → front ≡ whole
  none_left front [] whole is l = sym (is ∙ append-nil front)
  none_left front (x ∷ rest) whole is l = absurd (let a = ap length is in let b = length-append front (x ∷ rest) in omega arith)

  -- where all was told and found, what begins is the whole
  pub are_of : (mark : Number → ℕ) (got : List (Numbered T)) (told puts : List (Account T)) → KeysBegin key mark got puts → Each told (IsPart got) → PutsAreTold told puts → KeysAre key mark got puts
  are_of mark got told puts begin parts known i a at =
      let m : ℕ = mark a.number in
      let h = known i a at in
      let t : Account T = h.1 in
      let part = parts h.0 t h.2 in
      let whole : items_of a.number got ≡ a.put ++ part.0 = subst (λ l. items_of a.number got ≡ l ++ part.0) h.3.1 (subst (λ n. items_of n got ≡ t.put ++ part.0) h.3.0 part.1) in
      let keys : length (by_key key m (items_of a.number got)) ≡ length (by_key key m a.put) + length (by_key key m part.0) =
      ap (λ l. length (by_key key m l)) whole ∙ (ap length (by_key-append m a.put part.0) ∙ length-append (by_key key m a.put) (by_key key m part.0)) in
      let some = fewer m a.number got in
      let b = begin i a at in
      none_left (by_key key m (bare_items got)) b.0 (by_key key m a.put) b.1 (omega arith)
