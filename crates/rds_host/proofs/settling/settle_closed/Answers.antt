use Rattle.std.proofs.Common.{◌≡◌, ℕ, List, [], ◌∷◌, Some, get_or, map, option_map, slice_get, take, refl, ap, subst, ◌∙◌, arith}
use Rattle.std.proofs.lemmas.List.{map-id, take_all}
use Rattle.std.proofs.lemmas.Option.{get_or_from_slice_get, slice_get-get_or, slice_get-map}
use Rattle.rds_fmap.specs.Readers.{ReaderView}
use Rattle.rds_socket.specs.Holding.{Holding}
use Rattle.rds_host.specs.Settled.{AreSettled}
use Rattle.rds_host.proofs.Knowing.{lines_keep_told}
use Rattle.rds_host.proofs.Told.{same_at}
use Rattle.rds_host.proofs.ToldLines.{can_one, can_still, none_settled, settled_set}
use Rattle.rds_host.proofs.settling.settle_closed.Goals as goal

abbrev own : Holding ReaderView → Holding ReaderView
own h = h

pub settle_slot-requires-clause-number : goal.settle_slot-requires-clause-number
settle_slot-requires-clause-number g c =
    let inv = c.loop-i.invariant in
    let new = c.loop-i.closed in
    let i = c.loop-i.i in
    let s = get_or new i c.index-closed-i.result in
    let at : slice_get new i ≡ Some s = slice_get-get_or new i c.index-closed-i.result (omega arith) in
    let stood = same_at new c.args.closed.now i s inv.1 at in
    let number : Holding ReaderView → ℕ = λ (h : Holding ReaderView). h.words.slot in
    get_or_from_slice_get c.args.numbers.now i s.words.slot _
    (ap (λ (l : List ℕ). slice_get l i) c.requires.numbers ∙ (slice_get-map number c.args.closed.now i ∙ ap (option_map number) stood))

pub settle_slot-requires-clause-tell : goal.settle_slot-requires-clause-tell
settle_slot-requires-clause-tell g c =
    let inv = c.loop-i.invariant in
    let new = c.loop-i.closed in
    let i = c.loop-i.i in
    let s = get_or new i c.index-closed-i.result in
    let at : slice_get new i ≡ Some s = slice_get-get_or new i c.index-closed-i.result (omega arith) in
    let stood = same_at new c.args.closed.now i s inv.1 at in
    can_still (s ∷ []) c.args.lines.now c.loop-i.lines (lines_keep_told _ _ _ inv.2.lines_stay) (can_one c.args.closed.now c.args.lines.now i s stood c.requires.tell)

pub loop-i-init : goal.loop-i-init
loop-i-init g c = (refl, refl, none_settled c.args.lines.now)

pub loop-i-preserved : goal.loop-i-preserved
loop-i-preserved g c =
    let inv = c.loop-i.invariant in
    let new = c.loop-i.closed in
    let i = c.loop-i.i in
    let s = get_or new i c.index-closed-i.result in
    let at : slice_get new i ≡ Some s = slice_get-get_or new i c.index-closed-i.result (omega arith) in
    settled_set own [] [] c.args.closed.now new i s c.settle_slot.new.closed c.args.lines.now c.loop-i.lines c.settle_slot.new.lines inv.0 inv.1 at inv.2 c.settle_slot.ensures

pub returns : goal.returns
returns g c =
    let inv = c.loop-i.invariant in
    subst (λ (l : List (Holding ReaderView)). AreSettled [] c.args.closed.now l c.args.lines.now c.loop-i.lines) (map-id (take c.loop-i.i c.loop-i.closed) ∙ take_all c.loop-i.i c.loop-i.closed (omega arith))
    (subst (λ (l : List (Holding ReaderView)). AreSettled [] l (map own (take c.loop-i.i c.loop-i.closed)) c.args.lines.now c.loop-i.lines)
    (map-id (take c.loop-i.i c.args.closed.now) ∙ take_all c.loop-i.i c.args.closed.now (omega arith)) inv.2)
