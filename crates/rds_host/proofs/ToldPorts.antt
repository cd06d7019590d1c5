-- How the seats of lines at the port table are told of ports, one after another.
use Rattle.std.proofs.Common.{◌≡◌, ℕ, ◌+◌, ◌<◌, ◌≤◌, List, [], ◌∷◌, ◌++◌, Some, length, set, map, take, slice_get, refl, sym, ap, subst, ⊎_elim, ◌∙◌, arith}
use Rattle.std.proofs.lemmas.Bool.{cases_eq}
use Rattle.std.proofs.lemmas.List.{map_push}
use Rattle.std.proofs.lemmas.Option.{same_Some, slice_get_within}
use Rattle.rds_bindtab.specs.declared.view.Telling.{Telling}
use Rattle.rds_bindtab.specs.Seats.{PortSeat, telling_of}
use Rattle.rds_fmap.specs.Readers.{ReaderView, WriterView}
use Rattle.rds_line_channel.specs.PlaceLaws.{at_set, beside_set}
use Rattle.rds_socket.specs.Holding.{Holding}
use Rattle.rds_line.specs.Line.{LineView}
use Rattle.rds_host.specs.Settled.{AreLinesToldMore, knowing_ports}
use Rattle.rds_host.specs.Telling.{ArePortsTold, IsPortTold}
use Rattle.rds_host.proofs.Kept.{beside}
use Rattle.rds_host.proofs.Knowing.{ports_begin}
use Rattle.rds_host.proofs.Told.{appended_at, has_last, has_more, only_at, taken_set}

-- a seat that was told of another's port
pub port_heard : (seat : PortSeat) (holder : PortSeat) → IsPortTold (knowing_ports seat (telling_of holder.view ∷ [])) holder
port_heard seat holder = has_last (λ (t : Telling). t ≡ telling_of holder.view) seat.view.told (telling_of holder.view) refl

module _ {E : Type 0} where
  -- the seats of the lines up to one were told of a port
  abbrev pub PortUpTo : (n : ℕ) → List (LineView E WriterView) → PortSeat → Type 0
  PortUpTo n lines holder = (place : ℕ) (line : LineView E WriterView) → place < n → slice_get lines place ≡ Some line → IsPortTold line.ports holder

  pub none_heard : (lines : List (LineView E WriterView)) (holder : PortSeat) → PortUpTo 0 lines holder
  none_heard lines holder place line small at = absurd (omega (arith, small))

  pub next_heard : (n : ℕ) (lines : List (LineView E WriterView)) (line new : LineView E WriterView) (holder : PortSeat) → slice_get lines n ≡ Some line →
      IsPortTold new.ports holder → PortUpTo n lines holder → PortUpTo (n + 1) (set lines n new) holder
  next_heard n lines line new holder at told up place other small at_place =
      ⊎_elim
      (λ (here : place ≡ n).
      let stands = at_set lines n new (slice_get_within lines n line at) in
      let is : new ≡ other = same_Some new other (sym stands ∙ (ap (slice_get (set lines n new)) (sym here) ∙ at_place)) in
      subst (λ (l : LineView E WriterView). IsPortTold l.ports holder) is told)
      (λ (apart : place ≡ n → ⊥).
      let before : place < n = grind arith in
      up place other before (sym (beside_set lines n place new apart) ∙ at_place))
      (cases_eq place n)

  pub all_heard : (n : ℕ) (lines : List (LineView E WriterView)) (h : Holding ReaderView) → length lines ≤ n → PortUpTo n lines h.ports → ArePortsTold (h ∷ []) lines
  all_heard n lines h all up slot place other line at_slot at =
      let small = slice_get_within lines place line at in
      subst (λ (x : Holding ReaderView). IsPortTold line.ports x.ports) (only_at h other slot at_slot) (up place line (omega (arith, small, all)) at)

  pub none_ported : (lines : List (LineView E WriterView)) → ArePortsTold {R = ReaderView} [] lines
  none_ported lines slot place h line at at_line = absurd (let small = slice_get_within [] slot h at in omega arith)

  -- they stay told
  pub ports_still : (ports : List Telling) (slots : List (Holding ReaderView)) (lines told : List (LineView E WriterView)) → AreLinesToldMore ports lines told → ArePortsTold slots lines
      → ArePortsTold slots told
  ports_still ports slots lines told more had slot place h line at at_line =
      let before = beside lines told line place more.count at_line in
      has_more (λ (t : Telling). t ≡ telling_of h.ports.view) before.0.ports.view.told line.ports.view.told
      (ports_begin ports before.0 line (more.each place before.0 line before.1 at_line))
      (had slot place h before.0 at before.1)

  -- some slots after others
  pub ports_append : (slots more : List (Holding ReaderView)) (lines : List (LineView E WriterView)) → ArePortsTold slots lines → ArePortsTold more lines → ArePortsTold (slots ++ more) lines
  ports_append slots more lines first second slot place h line at at_line =
      ⊎_elim
      (λ (was : slice_get slots slot ≡ Some h). first slot place h line was at_line)
      (λ later. second _ place h line later.1 at_line)
      (appended_at slots more h slot at)

  -- a loop that tells one after another
  pub ported_set : {X : Type 0} (own : X → Holding ReaderView) (ports : List Telling) (new : List X) (i : ℕ) (after : X) (middle told : List (LineView E WriterView)) → i < length new →
      AreLinesToldMore ports middle told → ArePortsTold (map own (take i new)) middle → ArePortsTold (own after ∷ []) told →
      ArePortsTold (map own (take (i + 1) (set new i after))) told
  ported_set own ports new i after middle told small more before now =
      let given : map own (take i new) ++ own after ∷ [] ≡ map own (take (i + 1) (set new i after)) =
      sym (map_push own (take i new) after) ∙ ap (map own) (sym (taken_set new i after small)) in
      subst (λ (l : List (Holding ReaderView)). ArePortsTold l told) given
      (ports_append (map own (take i new)) (own after ∷ []) told (ports_still ports (map own (take i new)) middle told more before) now)
