-- What callers did over several lists of commands.
use Rattle.std.proofs.Common.{◌≡◌, inl, inr, ⊎_elim, ℕ, zero, suc, ◌<◌, List, [], ◌∷◌, ◌++◌, Some, None, length, map, take, drop, set, slice_get, refl, sym, ap, subst, ◌∙◌}
use Rattle.std.proofs.lemmas.List.{length-set}
use Rattle.std.proofs.lemmas.Option.{same_Some}
use Rattle.rds_fmap.specs.Readers.{ReaderView}
use Rattle.rds_text.specs.Hosts.{address_of}
use Rattle.rds_script.specs.Script.{IsCommand}
use Rattle.rds_script.specs.declared.script.Command.{Command}
use Rattle.rds_script.specs.declared.script.Command.TheVariants as script
use Rattle.rds_script.specs.declared.script.Placed.{Placed}
use Rattle.rds_socket.specs.Holding.{Holding}
use Rattle.rds_host.specs.Slots.{AreNewSlots}
use Rattle.rds_run_callers.specs.Commands.{commander}
use Rattle.rds_run_callers.specs.Doing.{IsDone}
use Rattle.rds_run_callers.specs.Places.{CallerView, Place, PlacesKeep, Vacant, vacant_places}
use Rattle.rds_run_rounds.specs.Grid.{others}
use Rattle.rds_run_hosts.specs.Leading.{CallersKeep, SamePlaces}
use Rattle.rds_run_hosts.specs.Obeyed.{AreNewPlaces, DoesCommand, HasObeyed}
use Rattle.rds_run_hosts.specs.Parties.{HaveObeyed}
use Rattle.rds_run_hosts.proofs.At.{at_map, at_set_any, stood_at}
use Rattle.rds_run_hosts.proofs.Keeping.{keeps_same}

-- the commands of one list, and then those of another
pub obeyed_through : (host : ℕ) (some more : List Placed) (first middle last : List Place) → HasObeyed host some first middle → HasObeyed host more middle last →
    HasObeyed host (some ++ more) first last
obeyed_through host [] more first middle last one two = subst (λ (l : List Place). HasObeyed host more l last) one two
obeyed_through host (placed ∷ some) more first middle last one two = (one.0, one.1, obeyed_through host some more one.0 middle last one.2 two)

-- one command more
pub obeyed_next : (host : ℕ) (commands : List Placed) (placed : Placed) (first middle last : List Place) → HasObeyed host commands first middle →
    DoesCommand host placed middle last → HasObeyed host (commands ++ placed ∷ []) first last
obeyed_next host commands placed first middle last before this = obeyed_through host commands (placed ∷ []) first middle last before (last, this, refl)

-- a command is done by one of the hosts
pub commander_known : (hosts : ℕ) (c : Command) (host : ℕ) → IsCommand hosts c → commander c ≡ Some host → host < hosts
commander_known hosts (script.Bind h port sndbuf rcvbuf) host known is = subst (λ n. n < hosts) (same_Some h host is) known.socket.known
commander_known hosts (script.BindAny h port sndbuf rcvbuf) host known is = subst (λ n. n < hosts) (same_Some h host is) known.socket.known
commander_known hosts (script.Send h port to dport payload) host known is = subst (λ n. n < hosts) (same_Some h host is) known.0.known
commander_known hosts (script.Recv h port) host known is = subst (λ n. n < hosts) (same_Some h host is) known.known
commander_known hosts (script.Cancel h port to dport) host known is = subst (λ n. n < hosts) (same_Some h host is) known.0.known
commander_known hosts (script.Close h port) host known is = subst (λ n. n < hosts) (same_Some h host is) known.known
commander_known hosts (script.Open h to) host known is = subst (λ n. n < hosts) (same_Some h host is) known.first
commander_known hosts (script.Move h to bytes) host known is = subst (λ n. n < hosts) (same_Some h host is) known.0.first
commander_known hosts (script.Cut h to) host known is = subst (λ n. n < hosts) (same_Some h host is) known.first
commander_known hosts script.Drain host known is = absurd (cc)

-- a command that no host does
pub obeyed_none : (callers : List CallerView) (placed : Placed) → commander placed.command ≡ None → HaveObeyed (placed ∷ []) callers callers
obeyed_none callers placed none = record {
  count = refl;
  each = λ host caller after stood stands.
      (caller.places, inr (λ is. absurd (cc), refl), ap (λ (c : CallerView). c.places) (same_Some after caller (sym stands ∙ stood)));
}

-- a command that a host did
pub obeyed_one : (callers : List CallerView) (host : ℕ) (was after : CallerView) (placed : Placed) → slice_get callers host ≡ Some was →
    commander placed.command ≡ Some host → IsDone placed.command was.places after.places → HaveObeyed (placed ∷ []) callers (set callers host after)
obeyed_one callers host was after placed at is done = record {
  count = length-set callers host after;
  each = λ k caller x stood stands. ⊎_elim
      (λ here.
      let same : was ≡ caller = same_Some was caller (sym at ∙ subst (λ n. slice_get callers n ≡ Some caller) here.0 stood) in
      let own : commander placed.command ≡ Some k = is ∙ ap Some (sym here.0) in
      (after.places, inl (own, subst (λ (c : CallerView). IsDone placed.command c.places after.places) same done), ap (λ (c : CallerView). c.places) here.1))
      (λ there. (
        caller.places,
        inr (λ own. there.0 (same_Some k host (sym own ∙ is)), refl),
        ap (λ (c : CallerView). c.places) (same_Some x caller (sym there.1 ∙ stood)),
      ))
      (at_set_any callers host after k x stands);
}

-- a caller whose slots were kept
pub kept_one : (callers : List CallerView) (host : ℕ) (was after : CallerView) → slice_get callers host ≡ Some was → PlacesKeep was.places after.places →
    CallersKeep callers (set callers host after)
kept_one callers host was after at keeps = record {
  count = length-set callers host after;
  each = λ k caller x stood stands. ⊎_elim
      (λ here.
      let same : was ≡ caller = same_Some was caller (sym at ∙ subst (λ n. slice_get callers n ≡ Some caller) here.0 stood) in
      subst (λ (c : CallerView). PlacesKeep c.places x.places) same (subst (λ (c : CallerView). PlacesKeep was.places c.places) (sym here.1) keeps))
      (λ there. subst (λ (c : CallerView). PlacesKeep caller.places c.places) (same_Some caller x (sym stood ∙ there.1)) (keeps_same caller.places))
      (at_set_any callers host after k x stands);
}

-- no command at all
pub obeyed_nothing : (callers : List CallerView) → HaveObeyed [] callers callers
obeyed_nothing callers = record {
  count = refl;
  each = λ host caller after stood stands. ap (λ (c : CallerView). c.places) (same_Some after caller (sym stands ∙ stood));
}

-- the commands of one list, and then those of another
pub all_obeyed_through : (some more : List Placed) (first middle last : List CallerView) → HaveObeyed some first middle → HaveObeyed more middle last →
    HaveObeyed (some ++ more) first last
all_obeyed_through some more first middle last one two = record {
  count = two.count ∙ one.count;
  each = λ host a c stood stands.
      let between = stood_at middle last host c two.count stands in
      obeyed_through host some more a.places between.0.places c.places (one.each host a between.0 stood between.1) (two.each host between.0 c between.1 stands);
}

pub length_vacant : (slots : List (Holding ReaderView)) → length (vacant_places slots) ≡ length slots
length_vacant [] = refl
length_vacant (h ∷ slots) = ap suc (length_vacant slots)

-- new slots are vacant
pub new_places : (count hosts host : ℕ) (slots : List (Holding ReaderView)) → AreNewSlots count (map address_of (others hosts host)) slots →
    AreNewPlaces hosts host (vacant_places slots)
new_places count hosts host slots new place p at =
    let h = at_map Vacant slots place p at in record {
      holding = h.0;
      vacant = h.2;
      number = new.number place h.0 h.1;
      routes = new.routes place h.0 h.1;
      put = new.put place h.0 h.1;
      got = new.got place h.0 h.1;
      total = new.total place h.0 h.1;
      steps = new.steps place h.0 h.1;
    }

-- nothing was done to any slot since
pub obeyed_same : (commands : List Placed) (first middle last : List CallerView) → HaveObeyed commands first middle → SamePlaces middle last → HaveObeyed commands first last
obeyed_same commands first middle last done same = record {
  count = same.count ∙ done.count;
  each = λ host a c stood stands.
      let between = stood_at middle last host c same.count stands in
      subst (λ (ps : List Place). HasObeyed host commands a.places ps) (sym (same.each host between.0 c between.1 stands)) (done.each host a between.0 stood between.1);
}

-- the first commands, and then the others
pub all_obeyed_of : (commands : List Placed) (leading : ℕ) (first bound last : List CallerView) → HaveObeyed (take leading commands) first bound →
    HaveObeyed (drop leading commands) bound last → HaveObeyed commands first last
all_obeyed_of commands leading first bound last one two =
    subst (λ (l : List Placed). HaveObeyed l first last) (take_drop leading commands)
    (all_obeyed_through (take leading commands) (drop leading commands) first bound last one two)
  where
    take_drop : (n : ℕ) (xs : List Placed) → take n xs ++ drop n xs ≡ xs
    take_drop zero xs = refl
    take_drop (suc n) [] = refl
    take_drop (suc n) (x ∷ xs) = ap (λ (l : List Placed). x ∷ l) (take_drop n xs)
