use Rattle.std.proofs.Common.{◌≡◌, ◌+◌, List, [], ◌∷◌, drop, length, fold, subst, sym, ap, ◌∙◌, arith}
use Rattle.std.proofs.lemmas.List.{length-append}
use Rattle.left_right.specs.Sides.{view}
use Rattle.rds_fmap.specs.declared.copies.shown.Shown.{Shown}
use Rattle.rds_fmap.specs.declared.copies.view.View.{View}
use Rattle.rds_fmap.proofs.Entering.{publishes, kept_ok, kept_done, one_waits}
use Rattle.rds_fmap.proofs.copies.writer.show.Goals as goal

pub publish_as-ruled-requires : goal.publish_as-ruled-requires
publish_as-ruled-requires g c next is =
    let added = (kept_ok _ _ c.append.result (sym c.is_err.ensures.value ∙ c.if-is_err.false) c.append.ensures.pending).1 in
    let all : drop c.append.new.self.behind c.append.new.self.log.items ≡ c.args.next ∷ [] = one_waits (drop c.args.ruled.behind c.args.ruled.log.items) (drop c.append.new.self.behind c.append.new.self.log.items) c.args.next added c.requires.settled.pending in
    let next_is : next ≡ c.args.next = subst (λ (l : List Shown). next ≡ fold (λ (_ : Shown) (s : Shown). s) c.append.new.self.desk.shown.value l) all is in
    let desk = c.append.ensures.desk in
    let shown = ap (λ d. d.shown.value.version) desk in
    let count = c.requires.settled.count in
    let published = ap (λ d. length (view {T = Shown} {V = View} d.place).published) desk in
    let more = c.requires.next in
    let version = ap (λ (x : Shown). x.version) next_is in
    publishes _ (view c.append.new.self.desk.place) c.append.new.self.desk.shown.value next (omega arith) (omega arith)

pub returns-clause-settled : goal.returns-clause-settled
returns-clause-settled g c =
    let added = (kept_ok _ _ c.append.result (sym c.is_err.ensures.value ∙ c.if-is_err.false) c.append.ensures.pending).1 in
    let all : drop c.append.new.self.behind c.append.new.self.log.items ≡ c.args.next ∷ [] = one_waits (drop c.args.ruled.behind c.args.ruled.log.items) (drop c.append.new.self.behind c.append.new.self.log.items) c.args.next added c.requires.settled.pending in
    let done = (kept_done _ _ c.publish_as-ruled.result.1 (c.publish_as-ruled.ensures.succeeds tt) c.publish_as-ruled.ensures.values).1 in
    let rule = (kept_done _ _ c.publish_as-ruled.result.1 (c.publish_as-ruled.ensures.succeeds tt) c.publish_as-ruled.ensures.rule).1 in
    let shown_is : c.publish_as-ruled.result.0.desk.shown.value ≡ c.args.next = subst (λ (l : List Shown). c.publish_as-ruled.result.0.desk.shown.value ≡ fold (λ (_ : Shown) (s : Shown). s) c.append.new.self.desk.shown.value l) all done.0 in
    let version = ap (λ (x : Shown). x.version) shown_is in
    let old = (view c.append.new.self.desk.place).published in
    let long : length (view c.publish_as-ruled.result.0.desk.place).published ≡ length old + 1 = ap (λ (v : View). length v.published) rule ∙ length-append old (c.publish_as-ruled.result.0.desk.shown.value.map ∷ []) in
    let published = ap (λ d. length (view {T = Shown} {V = View} d.place).published) c.append.ensures.desk in
    let count = c.requires.settled.count in
    let more = c.requires.next in
    record { pending = done.1; count = omega arith }
