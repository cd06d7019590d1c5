use Rattle.std.proofs.Common.{sym, ap, ◌∙◌, ◌≡◌, ◌<◌, ◌*◌, length, subst, arith}
use Rattle.std.proofs.lemmas.List.{with_items_is, get_or_default}
use Rattle.rds_cong.specs.WordLaws.{bytes_of_words, bytes-read}
use Rattle.rds_cong.proofs.map.PortMap.of_bytes.Goals as goal

pub returns : goal.returns
returns c =
    let words = c.read_u64_into.new.dst in
    let same : length words ≡ c.self.inside.words.len = c.read_u64_into.auto.dst ∙ c.deref_mut.ensures.len in
    let count : length words ≡ length c.self.inside.words.items = c.read_u64_into.auto.dst ∙ ap length c.deref_mut.ensures.value in
    let size = c.self.invariant.count in
    let long : length c.args.b.now ≡ 8 * length words = omega arith in
    ap bytes_of_words (with_items_is c.self.inside.words words same)
    ∙ bytes-read c.args.b.now words long (λ k d h. subst (λ b. b < 256) (sym (get_or_default c.args.b.now k d 0 h)) (c.fits-b k)) c.read_u64_into.ensures
