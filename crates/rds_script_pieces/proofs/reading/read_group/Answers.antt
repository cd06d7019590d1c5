use Rattle.std.proofs.Common.{◌≡◌, ◌∙◌, List, Result, ap, subst, IfOk, ℕ}
use Rattle.std.specs.Borrow.{Bor}
use Rattle.std.specs.List.{AllZip}
use Rattle.rayon.proofs.ToStd.{slice-AllZip}
use Rattle.rds_script.specs.declared.cause.ScriptError.{ScriptError}
use Rattle.rds_script_pieces.specs.declared.part.Part.{Part}
use Rattle.rds_script_pieces.specs.Parts.{IsPart}
use Rattle.rds_script_pieces.proofs.Pieced.{each_read, if_ok}
use Rattle.rds_script_pieces.proofs.reading.read_group.Goals as goal

pub returns : goal.returns
returns g c =
    let gives = c.in-Ok.ensures {u = tt} in
    let us = gives.0 in
    let zs = gives.1.0 in
    let slice : c.map.result.base.base.slice.now ≡ c.args.pieces.now =
    ap (λ it. it.base.slice.now) c.map.ensures.base ∙ ap (λ it. it.slice.now) c.with_min_len.ensures.base ∙ c.par_iter.ensures in
    let read : List ℕ → Bor (List ℕ) → Result Part ScriptError → Type 0 = λ head piece u. IfOk u (IsPart head piece.now) in
    let gave : AllZip (λ (z : Bor (Bor (List ℕ))) u. read c.map.result.f.1.now z.now u) zs us = gives.1.2 in
    let head : c.map.result.f.1.now ≡ c.args.head.now = ap (λ f. f.1.now) c.map.ensures.f in
    let zip = slice-AllZip zs c.args.pieces.now (gives.1.1 ∙ slice) (read c.map.result.f.1.now) us gave in
    let here = subst (λ (h : List ℕ). AllZip (read h) c.args.pieces.now us) head zip in
    if_ok _ c.in-Ok.parts c.ok.result (each_read c.args.head.now c.args.pieces.now us c.in-Ok.parts here gives.2) c.ok.ensures.value
