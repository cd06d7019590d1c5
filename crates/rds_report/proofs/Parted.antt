-- The items of the pairs to one host.
use Rattle.std.proofs.Common.{◌≡◌, ◌≤◌, ℕ, suc, Bool, true, false, cond, List, [], ◌∷◌, ◌++◌, length, map, filter, take, refl, sym, ap, ◌∙◌, append_assoc}
use Rattle.std.specs.Bool.{⊤}
use Rattle.std.specs.List.{flat_map}
use Rattle.std.proofs.lemmas.Bool.{eq-eqb, ne_eqb}
use Rattle.std.proofs.lemmas.List.{take_all}
use Rattle.std.proofs.lemmas.List.Elements.{filter-append}
use Rattle.rds_model.specs.declared.order.Datagram.{Datagram}
use Rattle.rds_model.specs.declared.entry.Entry.{Entry}
use Rattle.rds_model.specs.declared.entry.Entry.TheVariants.{Accept, Read}
use Rattle.rds_model.specs.declared.entry.Outcome.{Outcome}
use Rattle.rds_model.specs.declared.entry.Outcome.TheVariants as outcome
use Rattle.rds_model.specs.Past.{accepted}
use Rattle.rds_report.specs.Item.{Received, Unread, Item}
use Rattle.rds_model.specs.Log.{Log}
use Rattle.rds_text.specs.FinalViews.{side_view}
use Rattle.rds_text.specs.FinalState.{FinalJournal, FinalHost, FinalSocket, past_of}
use Rattle.rds_report.specs.Items.{item, accepted_items, sent_items, read_items, came_items, socket_items, is_lost, is_to, side_items, host_items}

-- all items are of pairs to the host at an address
abbrev pub AllTo : ℕ → List Item → Type 0
AllTo to [] = ⊤
AllTo to (i ∷ xs) = (i.group.to ≡ to) × AllTo to xs

all_append : (to : ℕ) (xs ys : List Item) → AllTo to xs → AllTo to ys → AllTo to (xs ++ ys)
all_append to [] ys a b = b
all_append to (x ∷ xs) ys a b = (a.0, all_append to xs ys a.1 b)

-- they are kept where that host is asked for, and else none is
pub kept : (at to : ℕ) (xs : List Item) → AllTo at xs → at ≡ to → filter (is_to to) xs ≡ xs
kept at to [] all is = refl
kept at to (i ∷ xs) all is =
    ap (λ (b : Bool). cond b (i ∷ filter (is_to to) xs) (filter (is_to to) xs)) (eq-eqb i.group.to to (all.0 ∙ is))
    ∙ ap (λ (l : List Item). i ∷ l) (kept at to xs all.1 is)

pub gone : (at to : ℕ) (xs : List Item) → AllTo at xs → (at ≡ to → ⊥) → filter (is_to to) xs ≡ []
gone at to [] all is = refl
gone at to (i ∷ xs) all is =
    ap (λ (b : Bool). cond b (i ∷ filter (is_to to) xs) (filter (is_to to) xs)) (ne_eqb i.group.to to (λ e. is (sym all.0 ∙ e)))
    ∙ gone at to xs all.1 is

accepted_all : (from to sport dport : ℕ) (b : Bool) → AllTo to (accepted_items from to sport dport b)
accepted_all from to sport dport true = (refl, (refl, tt))
accepted_all from to sport dport false = (refl, tt)

pub sent_all : (from to : ℕ) (lost : ℕ → Bool) (past : List Entry) → AllTo to (sent_items from to lost past)
sent_all from to lost [] = tt
sent_all from to lost (Accept slot sport dport payload ∷ past) =
    all_append to (sent_items from to lost past) (accepted_items from to sport dport (lost (suc (accepted past)))) (sent_all from to lost past)
    (accepted_all from to sport dport (lost (suc (accepted past))))
sent_all from to lost (_ ∷ past) = sent_all from to lost past

read_all : (to dport from sport : ℕ) (o : Outcome) → AllTo to (read_items to dport from sport o)
read_all to dport from sport outcome.NoSocket = (refl, tt)
read_all to dport from sport outcome.Ping = (refl, tt)
read_all to dport from sport outcome.Void = (refl, tt)
read_all to dport from sport outcome.Old = tt
read_all to dport from sport (outcome.Slot slot) = tt
read_all to dport from sport outcome.AckOnly = tt
read_all to dport from sport outcome.Map = tt
read_all to dport from sport outcome.OddMap = tt

pub came_all : (from to : ℕ) (past : List Entry) → AllTo to (came_items from to past)
came_all from to [] = tt
came_all from to (Read stream frame o ∷ past) =
    all_append to (came_items from to past) (read_items to frame.header.dport from frame.header.sport o) (came_all from to past)
    (read_all to frame.header.dport from frame.header.sport o)
came_all from to (_ ∷ past) = came_all from to past

map_all : (to : ℕ) (f : Datagram → Item) → ((d : Datagram) → (f d).group.to ≡ to) → (ds : List Datagram) → AllTo to (map f ds)
map_all to f is [] = tt
map_all to f is (d ∷ ds) = (is d, map_all to f is ds)

pub sockets_all : (to : ℕ) (sockets : List FinalSocket) → AllTo to (flat_map (socket_items to) sockets)
sockets_all to [] = tt
sockets_all to (s ∷ sockets) =
    let got = map (λ (d : Datagram). item to d.dport d.from d.sport (Received d.payload)) s.got in
    let left = map (λ (d : Datagram). item to d.dport d.from d.sport Unread) s.unread in
    all_append to (got ++ left) (flat_map (socket_items to) sockets)
    (all_append to got left (map_all to _ (λ d. refl) s.got) (map_all to _ (λ d. refl) s.unread)) (sockets_all to sockets)

-- those of parts, part by part
pub filter_spread : {X : Type 0} (p : Item → Bool) (f : X → List Item) (xs : List X) → filter p (flat_map f xs) ≡ flat_map (λ x. filter p (f x)) xs
filter_spread p f [] = refl
filter_spread p f (x ∷ xs) = filter-append p (f x) (flat_map f xs) ∙ ap (λ (l : List Item). filter p (f x) ++ l) (filter_spread p f xs)

-- the items of a journal, by whether its peer and its host are asked for
module _ (ends : List FinalHost) (host to : ℕ) (s : FinalJournal) where
  abbrev pub sent : List Item
  sent = sent_items host s.peer (is_lost s.past (past_of s.peer host ends)) s.past

  abbrev came : List Item
  came = came_items s.peer host s.past

  side_parts : (a b : List Item) → filter (is_to to) sent ≡ a → filter (is_to to) came ≡ b → filter (is_to to) (side_items ends host s) ≡ a ++ b
  side_parts a b one two =
      filter-append (is_to to) sent came ∙ ap (λ (l : List Item). l ++ filter (is_to to) came) one ∙ ap (λ (l : List Item). a ++ l) two

  pub sent_kept : s.peer ≡ to → filter (is_to to) sent ≡ sent
  sent_kept = kept s.peer to sent (sent_all host s.peer (is_lost s.past (past_of s.peer host ends)) s.past)

  pub sent_gone : (s.peer ≡ to → ⊥) → filter (is_to to) sent ≡ []
  sent_gone = gone s.peer to sent (sent_all host s.peer (is_lost s.past (past_of s.peer host ends)) s.past)

  pub came_kept : host ≡ to → filter (is_to to) came ≡ came
  came_kept = kept host to came (came_all s.peer host s.past)

  pub came_gone : (host ≡ to → ⊥) → filter (is_to to) came ≡ []
  came_gone = gone host to came (came_all s.peer host s.past)

-- those of what was sent and of what came are added in turn
pub journal_kept : (ends : List FinalHost) (host to : ℕ) (s : FinalJournal) (old mid new a b : List Item) → mid ≡ old ++ a → new ≡ mid ++ b →
    filter (is_to to) (sent ends host to s) ≡ a → filter (is_to to) (came ends host to s) ≡ b → new ≡ old ++ filter (is_to to) (side_items ends host s)
journal_kept ends host to s old mid new a b first second one two =
    second ∙ ap (λ (l : List Item). l ++ b) first ∙ append_assoc old a b ∙ ap (λ (l : List Item). old ++ l) (sym (side_parts ends host to s a b one two))

-- the items of a host: those of its journals are added in turn, and then those of its sockets
pub host_kept : (ends : List FinalHost) (to : ℕ) (e : FinalHost) (old mid new : List Item) (n : ℕ) (journals : List (ℕ × Log)) (b : List Item) →
    length journals ≤ n → e.sides ≡ map side_view journals →
    mid ≡ old ++ flat_map (λ (s : FinalJournal). filter (is_to to) (side_items ends e.addr s)) (map side_view (take n journals)) → new ≡ mid ++ b →
    filter (is_to to) (flat_map (socket_items e.addr) e.sockets) ≡ b → new ≡ old ++ filter (is_to to) (host_items ends e)
host_kept ends to e old mid new n journals b all sides first second is =
    let of_side : FinalJournal → List Item = λ s. filter (is_to to) (side_items ends e.addr s) in
    let had : mid ≡ old ++ flat_map of_side e.sides =
    first ∙ ap (λ (l : List (ℕ × Log)). old ++ flat_map of_side (map side_view l)) (take_all n journals all) ∙ ap (λ (l : List FinalJournal). old ++ flat_map of_side l) (sym sides) in
    let parts : filter (is_to to) (host_items ends e) ≡ flat_map of_side e.sides ++ b =
    filter-append (is_to to) (flat_map (side_items ends e.addr) e.sides) (flat_map (socket_items e.addr) e.sockets)
    ∙ ap (λ (l : List Item). l ++ filter (is_to to) (flat_map (socket_items e.addr) e.sockets)) (filter_spread (is_to to) (side_items ends e.addr) e.sides)
    ∙ ap (λ (l : List Item). flat_map of_side e.sides ++ l) is in
    second ∙ ap (λ (l : List Item). l ++ b) had ∙ append_assoc old (flat_map of_side e.sides) b ∙ ap (λ (l : List Item). old ++ l) (sym parts)

pub sockets_kept : (to : ℕ) (e : FinalHost) → e.addr ≡ to → filter (is_to to) (flat_map (socket_items e.addr) e.sockets) ≡ flat_map (socket_items e.addr) e.sockets
sockets_kept to e = kept e.addr to (flat_map (socket_items e.addr) e.sockets) (sockets_all e.addr e.sockets)

pub sockets_gone : (to : ℕ) (e : FinalHost) → (e.addr ≡ to → ⊥) → filter (is_to to) (flat_map (socket_items e.addr) e.sockets) ≡ []
sockets_gone to e = gone e.addr to (flat_map (socket_items e.addr) e.sockets) (sockets_all e.addr e.sockets)
