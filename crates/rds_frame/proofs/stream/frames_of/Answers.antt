use Rattle.std.proofs.Common.{◌≡◌, sym, ap, subst, arith, ℕ, List, [], ◌++◌, take}
use Rattle.std.proofs.lemmas.List.{take_all}
use Rattle.std.specs.List.{flat_map}
use Rattle.std.proofs.lemmas.Result.{err_from_is_err_and}
use Rattle.rds_wire.specs.declared.frame.Frame.{Frame}
use Rattle.rds_frame.specs.Splitting.{frames_bytes, IsMalformed}
use Rattle.rds_frame.specs.Holding.{SplitterView, held_bytes, IsFed, nothing_held}
use Rattle.rds_frame.proofs.Feeding.{IsFed-nothing, IsMalformed-pieces, Splits-fed-only}
use Rattle.rds_frame.proofs.stream.frames_of.Goals as goal

pub loop-piece-init : goal.loop-piece-init
loop-piece-init c =
    let new = c.in_ok-splitter.ensures {u = tt} in (
      ap (λ (h : SplitterView). h.waiting) new.fresh,
      subst (λ (h : SplitterView). IsFed c.args.highest c.args.known [] c.new-frames.result.items h) (sym new.fresh)
          (subst (λ (frames : List Frame). IsFed c.args.highest c.args.known [] frames nothing_held) (sym c.new-frames.ensures.items) (IsFed-nothing c.args.highest c.args.known)),
    )

pub returns-in_err-feed-clause-malformed : goal.returns-in_err-feed-clause-malformed
returns-in_err-feed-clause-malformed c =
    let loop = c.loop-piece in
    let p = err_from_is_err_and c.from_residual-in_err-feed.result c.from_residual-in_err-feed.ensures.1 in
    let failed = c.in_err-feed.ensures {u = tt} in
    λ fault same. IsMalformed-pieces (λ piece. piece.items) c.args.highest c.args.known c.args.pieces.now loop.piece-index c.piece-item.result loop.frames.items loop.splitter fault
    (omega arith) c.piece-item.is loop.invariant.1
    (subst (λ (piece : List ℕ). IsMalformed c.args.highest c.args.known (frames_bytes loop.frames.items ++ held_bytes loop.splitter ++ piece) fault)
    c.deref.ensures.value (failed.malformed fault (cc)))

pub returns-clause-only : goal.returns-clause-only
returns-clause-only c =
    let loop = c.loop-piece in
    let all : take loop.piece-index c.args.pieces.now ≡ c.args.pieces.now = take_all loop.piece-index c.args.pieces.now (omega arith) in
    let bytes = ap (flat_map (λ piece. piece.items)) all in
    let fed = subst (λ (b : List ℕ). IsFed c.args.highest c.args.known b loop.frames.items loop.splitter) bytes loop.invariant.1 in
    Splits-fed-only c.args.highest c.args.known _ loop.frames.items loop.splitter fed loop.invariant.0
