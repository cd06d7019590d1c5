-- What is of one port pair among the items of all hosts.
use Rattle.std.proofs.Common.{◌≡◌, inl, inr, ℕ, suc, Bool, true, false, ◌&&◌, ◌==◌, cond, List, [], ◌∷◌, ◌++◌, map, filter, refl, sym, ap, ◌∙◌}
use Rattle.std.specs.List.{flat_map}
use Rattle.std.proofs.lemmas.Bool.{cases_eq, ne_eqb, eq-eqb}
use Rattle.std.proofs.lemmas.List.Elements.{filter-append}
use Rattle.rds_model.specs.declared.order.Datagram.{Datagram}
use Rattle.rds_model.specs.declared.entry.Entry.{Entry}
use Rattle.rds_model.specs.declared.entry.Entry.TheVariants.{Accept, Read}
use Rattle.rds_model.specs.declared.entry.Outcome.{Outcome}
use Rattle.rds_model.specs.declared.entry.Outcome.TheVariants as outcome
use Rattle.rds_model.specs.Past.{accepted}
use Rattle.rds_report.specs.Item.{What, Accepted, Received, Unread, Dropped, Port0, Cancelled, Item}
use Rattle.rds_text.specs.FinalState.{FinalSocket}
use Rattle.rds_text.specs.Report.{Group}
use Rattle.rds_report.specs.Items.{item, accepted_items, sent_items, read_items, came_items, socket_items}
use Rattle.rds_report.specs.ItemReport.{is_of, of_pair}

-- items of another pair

pub eq_comm : (a b : ℕ) → (a == b) ≡ (b == a)
eq_comm a b = elim (cases_eq a b) [
  | inl e ↦ eq-eqb a b e ∙ sym (eq-eqb b a (sym e))
  | inr o ↦ ne_eqb a b o ∙ sym (ne_eqb b a (λ e. o (sym e)))
]

and_false : (x : Bool) → (x && false) ≡ false
and_false true = refl
and_false false = refl

pub other_to : (g : Group) (to dport from sport : ℕ) (what : What) → (to == g.to) ≡ false → is_of g (item to dport from sport what) ≡ false
other_to g to dport from sport what differs =
    ap (λ (b : Bool). (b && (g.dport == dport)) && ((g.from == from) && (g.sport == sport))) (eq_comm g.to to ∙ differs)

pub other_from : (g : Group) (to dport from sport : ℕ) (what : What) → (from == g.from) ≡ false → is_of g (item to dport from sport what) ≡ false
other_from g to dport from sport what differs =
    ap (λ (b : Bool). ((g.to == to) && (g.dport == dport)) && (b && (g.sport == sport))) (eq_comm g.from from ∙ differs)
    ∙ and_false ((g.to == to) && (g.dport == dport))

skip : (g : Group) (i : Item) (rest : List Item) → is_of g i ≡ false → of_pair g (i ∷ rest) ≡ of_pair g rest
skip g i rest is = ap (λ (b : Bool). cond b (i ∷ of_pair g rest) (of_pair g rest)) is

module _ (g : Group) (from to : ℕ) (never : (dport sport : ℕ) (what : What) → is_of g (item to dport from sport what) ≡ false) where
  none_accepted : (sport dport : ℕ) (b : Bool) → of_pair g (accepted_items from to sport dport b) ≡ []
  none_accepted sport dport true =
      skip g (item to dport from sport Accepted) (item to dport from sport Cancelled ∷ []) (never dport sport Accepted)
      ∙ skip g (item to dport from sport Cancelled) [] (never dport sport Cancelled)
  none_accepted sport dport false = skip g (item to dport from sport Accepted) [] (never dport sport Accepted)

  pub none_sent : (lost : ℕ → Bool) (past : List Entry) → of_pair g (sent_items from to lost past) ≡ []
  none_sent lost [] = refl
  none_sent lost (Accept slot sport dport payload ∷ past) =
      filter-append (is_of g) (sent_items from to lost past) (accepted_items from to sport dport (lost (suc (accepted past))))
      ∙ ap (λ (l : List Item). l ++ of_pair g (accepted_items from to sport dport (lost (suc (accepted past))))) (none_sent lost past)
      ∙ none_accepted sport dport (lost (suc (accepted past)))
  none_sent lost (_ ∷ past) = none_sent lost past

  none_read : (dport sport : ℕ) (o : Outcome) → of_pair g (read_items to dport from sport o) ≡ []
  none_read dport sport outcome.NoSocket = skip g (item to dport from sport Dropped) [] (never dport sport Dropped)
  none_read dport sport outcome.Ping = skip g (item to dport from sport Port0) [] (never dport sport Port0)
  none_read dport sport outcome.Void = skip g (item to dport from sport Port0) [] (never dport sport Port0)
  none_read dport sport outcome.Old = refl
  none_read dport sport (outcome.Slot slot) = refl
  none_read dport sport outcome.AckOnly = refl
  none_read dport sport outcome.Map = refl
  none_read dport sport outcome.OddMap = refl

  pub none_came : (past : List Entry) → of_pair g (came_items from to past) ≡ []
  none_came [] = refl
  none_came (Read stream frame o ∷ past) =
      filter-append (is_of g) (came_items from to past) (read_items to frame.header.dport from frame.header.sport o)
      ∙ ap (λ (l : List Item). l ++ of_pair g (read_items to frame.header.dport from frame.header.sport o)) (none_came past)
      ∙ none_read frame.header.dport frame.header.sport o
  none_came (_ ∷ past) = none_came past

module _ (g : Group) (to : ℕ) (differs : (to == g.to) ≡ false) where
  none_got : (ds : List Datagram) → of_pair g (map (λ (d : Datagram). item to d.dport d.from d.sport (Received d.payload)) ds) ≡ []
  none_got [] = refl
  none_got (d ∷ ds) = skip g _ _ (other_to g to d.dport d.from d.sport (Received d.payload) differs) ∙ none_got ds

  none_unread : (ds : List Datagram) → of_pair g (map (λ (d : Datagram). item to d.dport d.from d.sport Unread) ds) ≡ []
  none_unread [] = refl
  none_unread (d ∷ ds) = skip g _ _ (other_to g to d.dport d.from d.sport Unread differs) ∙ none_unread ds

  pub none_sockets : (sockets : List FinalSocket) → of_pair g (flat_map (socket_items to) sockets) ≡ []
  none_sockets [] = refl
  none_sockets (s ∷ sockets) =
      filter-append (is_of g) (socket_items to s) (flat_map (socket_items to) sockets)
      ∙ ap (λ (l : List Item). l ++ of_pair g (flat_map (socket_items to) sockets))
      (filter-append (is_of g) (map (λ (d : Datagram). item to d.dport d.from d.sport (Received d.payload)) s.got) (map (λ (d : Datagram). item to d.dport d.from d.sport Unread) s.unread)
      ∙ ap (λ (l : List Item). l ++ of_pair g (map (λ (d : Datagram). item to d.dport d.from d.sport Unread) s.unread)) (none_got s.got) ∙ none_unread s.unread)
      ∙ none_sockets sockets

-- items of one kind

abbrev pub of_kind : (What → Bool) → List Item → List Item
of_kind kind xs = filter (λ (i : Item). kind i.what) xs

-- the items of a kind and a pair
abbrev pub chosen : (What → Bool) → Group → List Item → List Item
chosen kind g xs = of_kind kind (of_pair g xs)

pub chosen_append : (kind : What → Bool) (g : Group) (xs ys : List Item) → chosen kind g (xs ++ ys) ≡ chosen kind g xs ++ chosen kind g ys
chosen_append kind g xs ys =
    ap (of_kind kind) (filter-append (is_of g) xs ys) ∙ filter-append (λ (i : Item). kind i.what) (of_pair g xs) (of_pair g ys)

pub chosen_spread : {X : Type 0} (kind : What → Bool) (g : Group) (f : X → List Item) (xs : List X) →
    chosen kind g (flat_map f xs) ≡ flat_map (λ x. chosen kind g (f x)) xs
chosen_spread kind g f [] = refl
chosen_spread kind g f (x ∷ xs) =
    chosen_append kind g (f x) (flat_map f xs) ∙ ap (λ (l : List Item). chosen kind g (f x) ++ l) (chosen_spread kind g f xs)

filter_swap : (p q : Item → Bool) (xs : List Item) → filter p (filter q xs) ≡ filter q (filter p xs)
filter_swap p q [] = refl
filter_swap p q (x ∷ xs) = go (p x) (q x) refl refl (filter_swap p q xs)
  where
    go : (a b : Bool) → p x ≡ a → q x ≡ b → filter p (filter q xs) ≡ filter q (filter p xs) → filter p (filter q (x ∷ xs)) ≡ filter q (filter p (x ∷ xs))
    go true true a b ih =
        ap (λ (c : Bool). filter p (cond c (x ∷ filter q xs) (filter q xs))) b ∙ ap (λ (c : Bool). cond c (x ∷ filter p (filter q xs)) (filter p (filter q xs))) a
        ∙ ap (λ (l : List Item). x ∷ l) ih
        ∙ sym (ap (λ (c : Bool). filter q (cond c (x ∷ filter p xs) (filter p xs))) a ∙ ap (λ (c : Bool). cond c (x ∷ filter q (filter p xs)) (filter q (filter p xs))) b)
    go true false a b ih =
        ap (λ (c : Bool). filter p (cond c (x ∷ filter q xs) (filter q xs))) b ∙ ih
        ∙ sym (ap (λ (c : Bool). filter q (cond c (x ∷ filter p xs) (filter p xs))) a ∙ ap (λ (c : Bool). cond c (x ∷ filter q (filter p xs)) (filter q (filter p xs))) b)
    go false true a b ih =
        ap (λ (c : Bool). filter p (cond c (x ∷ filter q xs) (filter q xs))) b ∙ ap (λ (c : Bool). cond c (x ∷ filter p (filter q xs)) (filter p (filter q xs))) a
        ∙ ih ∙ sym (ap (λ (c : Bool). filter q (cond c (x ∷ filter p xs) (filter p xs))) a)
    go false false a b ih =
        ap (λ (c : Bool). filter p (cond c (x ∷ filter q xs) (filter q xs))) b ∙ ih
        ∙ sym (ap (λ (c : Bool). filter q (cond c (x ∷ filter p xs) (filter p xs))) a)

-- none of a kind, none chosen
pub none_chosen : (kind : What → Bool) (g : Group) (xs : List Item) → of_kind kind xs ≡ [] → chosen kind g xs ≡ []
none_chosen kind g xs none = filter_swap (λ (i : Item). kind i.what) (is_of g) xs ∙ ap (of_pair g) none

drop_one : (kind : What → Bool) (i : Item) (rest : List Item) → kind i.what ≡ false → of_kind kind (i ∷ rest) ≡ of_kind kind rest
drop_one kind i rest is = ap (λ (b : Bool). cond b (i ∷ of_kind kind rest) (of_kind kind rest)) is

module _ (kind : What → Bool) where
  kindless_accepted : kind Accepted ≡ false → kind Cancelled ≡ false → (from to sport dport : ℕ) (b : Bool) → of_kind kind (accepted_items from to sport dport b) ≡ []
  kindless_accepted a c from to sport dport true =
      drop_one kind (item to dport from sport Accepted) (item to dport from sport Cancelled ∷ []) a ∙ drop_one kind (item to dport from sport Cancelled) [] c
  kindless_accepted a c from to sport dport false = drop_one kind (item to dport from sport Accepted) [] a

  pub kindless_sent : kind Accepted ≡ false → kind Cancelled ≡ false → (from to : ℕ) (lost : ℕ → Bool) (past : List Entry) → of_kind kind (sent_items from to lost past) ≡ []
  kindless_sent a c from to lost [] = refl
  kindless_sent a c from to lost (Accept slot sport dport payload ∷ past) =
      filter-append (λ (i : Item). kind i.what) (sent_items from to lost past) (accepted_items from to sport dport (lost (suc (accepted past))))
      ∙ ap (λ (l : List Item). l ++ of_kind kind (accepted_items from to sport dport (lost (suc (accepted past))))) (kindless_sent a c from to lost past)
      ∙ kindless_accepted a c from to sport dport (lost (suc (accepted past)))
  kindless_sent a c from to lost (_ ∷ past) = kindless_sent a c from to lost past

  kindless_read : kind Dropped ≡ false → kind Port0 ≡ false → (from to dport sport : ℕ) (o : Outcome) → of_kind kind (read_items to dport from sport o) ≡ []
  kindless_read d p from to dport sport outcome.NoSocket = drop_one kind (item to dport from sport Dropped) [] d
  kindless_read d p from to dport sport outcome.Ping = drop_one kind (item to dport from sport Port0) [] p
  kindless_read d p from to dport sport outcome.Void = drop_one kind (item to dport from sport Port0) [] p
  kindless_read d p from to dport sport outcome.Old = refl
  kindless_read d p from to dport sport (outcome.Slot slot) = refl
  kindless_read d p from to dport sport outcome.AckOnly = refl
  kindless_read d p from to dport sport outcome.Map = refl
  kindless_read d p from to dport sport outcome.OddMap = refl

  pub kindless_came : kind Dropped ≡ false → kind Port0 ≡ false → (from to : ℕ) (past : List Entry) → of_kind kind (came_items from to past) ≡ []
  kindless_came d p from to [] = refl
  kindless_came d p from to (Read stream frame o ∷ past) =
      filter-append (λ (i : Item). kind i.what) (came_items from to past) (read_items to frame.header.dport from frame.header.sport o)
      ∙ ap (λ (l : List Item). l ++ of_kind kind (read_items to frame.header.dport from frame.header.sport o)) (kindless_came d p from to past)
      ∙ kindless_read d p from to frame.header.dport frame.header.sport o
  kindless_came d p from to (_ ∷ past) = kindless_came d p from to past

  pub kindless_map : {X : Type 0} (f : X → Item) → ((x : X) → kind (f x).what ≡ false) → (xs : List X) → of_kind kind (map f xs) ≡ []
  kindless_map f never [] = refl
  kindless_map f never (x ∷ xs) = drop_one kind (f x) (map f xs) (never x) ∙ kindless_map f never xs

  pub kindless_sockets : ((p : List ℕ) → kind (Received p) ≡ false) → kind Unread ≡ false → (to : ℕ) (sockets : List FinalSocket) →
      of_kind kind (flat_map (socket_items to) sockets) ≡ []
  kindless_sockets r u to [] = refl
  kindless_sockets r u to (s ∷ sockets) =
      let got = map (λ (d : Datagram). item to d.dport d.from d.sport (Received d.payload)) s.got in
      let left = map (λ (d : Datagram). item to d.dport d.from d.sport Unread) s.unread in
      filter-append (λ (i : Item). kind i.what) (got ++ left) (flat_map (socket_items to) sockets)
      ∙ ap (λ (l : List Item). l ++ of_kind kind (flat_map (socket_items to) sockets))
      (filter-append (λ (i : Item). kind i.what) got left
      ∙ ap (λ (l : List Item). l ++ of_kind kind left) (kindless_map (λ (d : Datagram). item to d.dport d.from d.sport (Received d.payload)) (λ d. r d.payload) s.got)
      ∙ kindless_map (λ (d : Datagram). item to d.dport d.from d.sport Unread) (λ d. u) s.unread)
      ∙ kindless_sockets r u to sockets
