-- What a read and a write of the end of the open stream do to the tie of its bytes to the journal.
use Rattle.std.proofs.Common.{◌≡◌, ◌≢◌, ℕ, true, List, [], ◌++◌, refl, ap, ◌∙◌, append_assoc}
use Rattle.std.proofs.lemmas.List.{append-nil}
use Rattle.rds_link.specs.declared.end.Got.{Got}
use Rattle.rds_link.specs.declared.end.Put.{Put}
use Rattle.rds_link.specs.declared.end.Put.TheVariants as put
use Rattle.rds_link.specs.Answers.{bytes_put}
use Rattle.rds_link.specs.Ends.{Means}
use Rattle.rds_model.specs.declared.entry.Entry.{Entry}
use Rattle.rds_line_channel.specs.StreamChanges.{Receives, Sends}
use Rattle.rds_model.specs.Streams.{read_bytes}
use Rattle.rds_line_channel.specs.Carried.{IsOn}

module _ {E : Type 0} (m : Means E) (past : List Entry) (tells : m.tells ≡ true) (number : ℕ) (old new : E) where
  -- the bytes that a read gave arrive behind those that were taken
  pub received_on : (answer : Got) (taken before_it piece out : List ℕ) → before_it ≡ [] → Receives m answer piece old new →
      IsOn m past (taken ++ before_it) out number old → IsOn m past (taken ++ piece) out number new
  received_on answer taken before_it piece out empty did on = record {
    sends = ap (λ sent. sent ++ out) did.sent.0 ∙ on.sends;
    gets =
        let was_read = read_bytes number past in
        let none : taken ++ before_it ≡ taken = ap (λ l. taken ++ l) empty ∙ append-nil taken in
        did.got tells ∙ (ap (λ l. l ++ piece) (on.gets ∙ ap (λ l. was_read ++ l) none) ∙ append_assoc was_read taken piece);
  }

  -- the bytes that a write sent are to be written no more
  pub sent_on : (answer : Put) (arrived out sent rest : List ℕ) → sent ++ rest ≡ out → Sends m answer sent old new →
      IsOn m past arrived out number old → IsOn m past arrived rest number new
  sent_on answer arrived out sent rest whole did on = record {
    sends =
        ap (λ l. l ++ rest) (did.sent tells)
        ∙ (append_assoc (m.sent old) sent rest ∙ (ap (λ l. m.sent old ++ l) whole ∙ on.sends));
    gets = did.got.0 ∙ on.gets;
  }

-- a write that took no bytes
pub none_put : (answer : Put) → ((n : ℕ) → answer ≢ put.Took n) → bytes_put answer ≡ 0
none_put (put.Took n) none = absurd (none n refl)
none_put put.Full none = refl
none_put put.Over none = refl
