-- No header of the other end is refused: two honest journals have none.
use Rattle.std.proofs.Common.{◌≡◌, ℕ, List, ◌∷◌, ◌++◌, take, drop, sym, ◌∙◌, ap, subst, append_assoc}
use Rattle.std.proofs.lemmas.List.{take-append-drop}
use Rattle.rds_wire.specs.declared.kind.Malformed.{Malformed}
use Rattle.rds_model.specs.declared.entry.Entry.{Entry}
use Rattle.rds_model.specs.declared.entry.Entry.TheVariants.{Bad}
use Rattle.rds_model.specs.Past.{Moment, now}
use Rattle.rds_model.specs.Honest.{IsHonest}
use Rattle.rds_model.specs.Legal.{IsLegal}
use Rattle.rds_model.specs.Fifo.{HasNoBad}
use Rattle.rds_conn.specs.Connection.{Connection}
use Rattle.rds_conn.specs.Feeding.{RefusesHeader}
use Rattle.rds_play_pair.specs.Half.{side}
use Rattle.rds_play_pair.specs.Joined.{Flows}
use Rattle.rds_play_pair.proofs.Flowing.{begins_refused}

-- a refusal of bytes that were in flight leaves the journals honest
pub honest_refused : (writer reader new : Connection) (flying back piece more : List ℕ) (fault : Malformed) →
    Flows (side writer flying) (side reader back) → Flows (side reader back) (side writer flying) → IsLegal reader.log.past →
    flying ≡ piece ++ more → RefusesHeader piece fault reader new → IsHonest writer.log.past new.log.past
honest_refused writer reader new flying back piece more fault forth backwards legal split refused =
    let came = take refused.used piece in
    let left = drop refused.used piece ++ more in
    let parts : flying ≡ came ++ left =
    split ∙ ap (λ (front : List ℕ). front ++ more) (sym (take-append-drop refused.used piece)) ∙ append_assoc came (drop refused.used piece) more in
    let honest : IsHonest writer.log.past (Bad refused.s refused.header fault ∷ reader.log.past) = record {
      forth = begins_refused (side writer flying) (side reader back) refused.s refused.header fault came left forth legal refused.on parts refused.bytes;
      back = backwards.prefixes;
    } in
    subst (λ (c : Connection). IsHonest writer.log.past c.log.past) (sym refused.entry) honest

pub never_refused : (reader new : Connection) (piece : List ℕ) (fault : Malformed) (j : List Entry) → RefusesHeader piece fault reader new →
    j ≡ new.log.past → HasNoBad j → ⊥
never_refused reader new piece fault j refused is none =
    let entries : j ≡ Bad refused.s refused.header fault ∷ reader.log.past = is ∙ ap (λ (c : Connection). c.log.past) refused.entry in
    none refused.s refused.header fault reader.log.past
    (subst (λ (entries : List Entry). Moment (Bad refused.s refused.header fault ∷ reader.log.past) entries) (sym entries) now)
