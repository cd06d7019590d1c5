-- What is read of a source is the whole of its text, unless that is too large; and what follows for the answers of a call.
use Rattle.std.proofs.Common.{◌≡◌, ◌⊎◌, inl, inr, ℕ, ◌+◌, ◌<◌, ◌≤◌, List, ◌++◌, append_assoc, length, take, Option, Some, None, refl, sym, ap, subst, ◌∙◌, arith}
use Rattle.rds_link.specs.Seen.{SinkSeen, SourceSeen}
use Rattle.std.proofs.lemmas.List.{length-take, take_all}
use Rattle.rds_link.specs.Streaming.{SourceGaveAll, SourceGaveFront, HasRisen, SinkGained, SinkGainedFront}
use Rattle.rds_model.specs.declared.journal.TheConstants.{MAX_ENTRIES}
use Rattle.rds_history.specs.History.{text, text_of}
use Rattle.rds_history.specs.Transcript.{lines}
use Rattle.rds_text.specs.Lines.{end_line}
use Rattle.rds_script.specs.declared.script.TheConstants.{MAX_TEXT}
use Rattle.rds_script.specs.declared.cause.Cause.{Cause}
use Rattle.rds_script.specs.declared.cause.Cause.TheVariants as cause
use Rattle.rds_script.specs.Cause.{cause_text}
use Rattle.rds_script.specs.Grammar.{Meaning, Spells}
use Rattle.rds_script.specs.Refusal.{Refused}
use Rattle.rds_run.specs.declared.status.Status.{Status}
use Rattle.rds_run.specs.declared.status.Status.TheVariants as ended
use Rattle.rds_run.specs.ExitStatus.{IsSpelled, IsRefusedAt, IsToldSpelled, IsToldRefused, IsPlayed, HasTaken, OfReadFault, OfRefusal, OfScript, OfUnread, IsEndOfRefusal, IsEndOfPlay, IsEndOfCall}
use Rattle.rds_run.specs.Reading.{IsEndOfReading, IsReadToEnd}
use Rattle.rds_run.specs.Texts.{bad_line, read_fault_line}

-- what is no longer than a script may be was read to its end
whole : (all text : List ℕ) → text ≡ take (MAX_TEXT + 1) all → length text ≤ MAX_TEXT → text ≡ all
whole all text handed within =
    let count = ap length handed ∙ length-take (MAX_TEXT + 1) all in
    handed ∙ take_all (MAX_TEXT + 1) all (omega (arith, count, within))

-- and nothing is left behind it
pub emptied : (old new : Option (List ℕ)) (text : List ℕ) (m : Meaning) → (length text < MAX_TEXT + 1 → SourceGaveAll old new text) → Spells text m →
    IsReadToEnd old new
emptied None new text m gave spells = tt
emptied (Some all) new text m gave spells = let within = spells.small in (gave (omega (arith, within))).1

-- a text is too large, or it is not
small : (text : List ℕ) (line : ℕ) (why : Cause) → Refused text line why → (why ≡ cause.TooLarge) ⊎ (length text ≤ MAX_TEXT)
small text line cause.TooLarge r = inl refl
small text line cause.Lines r = inr r.0
small text line cause.Text r = inr r.0
small text line cause.Command r = inr r.0
small text line cause.Words r = inr r.0
small text line cause.Host r = inr r.0
small text line cause.SameHost r = inr r.0
small text line cause.Number r = inr r.0
small text line cause.Payload r = inr r.0
small text line cause.Total r = inr r.0
small text line cause.Cuts r = inr r.0
small text line cause.Empty r = inr r.1

-- the whole of a text is too large where its front is
too_large : (all text : List ℕ) (line : ℕ) → text ≡ take (MAX_TEXT + 1) all → Refused text line cause.TooLarge → Refused all line cause.TooLarge
too_large all text line handed refused =
    let count = ap length handed ∙ length-take (MAX_TEXT + 1) all in
    (refused.0, omega (arith, count, refused.1))

refused_whole : (all text : List ℕ) (line : ℕ) (why : Cause) → text ≡ take (MAX_TEXT + 1) all → Refused text line why →
    (why ≡ cause.TooLarge) ⊎ (length text ≤ MAX_TEXT) → Refused all line why
refused_whole all text line why handed refused (inl large) =
    subst (λ c. Refused all line c) (sym large) (too_large all text line handed (subst (λ c. Refused text line c) large refused))
refused_whole all text line why handed refused (inr within) = subst (λ t. Refused t line why) (whole all text handed within) refused

refused_at : (left : Option (List ℕ)) (text : List ℕ) (line : ℕ) (why : Cause) → SourceGaveFront left (MAX_TEXT + 1) text →
    Refused text line why → IsRefusedAt left line why
refused_at None text line why handed refused = (text, tt, refused)
refused_at (Some all) text line why handed refused = (all, refl, refused_whole all text line why handed refused (small text line why refused))

-- and so is its front where the whole is
refused_front : (all text : List ℕ) (line : ℕ) (why : Cause) → text ≡ take (MAX_TEXT + 1) all → Refused all line why →
    (why ≡ cause.TooLarge) ⊎ (length all ≤ MAX_TEXT) → Refused text line why
refused_front all text line why handed refused (inl large) =
    let whole_refused = subst (λ c. Refused all line c) large refused in
    let count = ap length handed ∙ length-take (MAX_TEXT + 1) all in
    subst (λ c. Refused text line c) (sym large) (whole_refused.0, omega (arith, count, whole_refused.1))
refused_front all text line why handed refused (inr within) =
    subst (λ t. Refused t line why) (sym (handed ∙ take_all (MAX_TEXT + 1) all (omega (arith, within)))) refused

-- what is read of a refused text is refused
pub refused_told : (left : Option (List ℕ)) (text : List ℕ) (line : ℕ) (why : Cause) → SourceGaveFront left (MAX_TEXT + 1) text →
    IsToldRefused left line why → Refused text line why
refused_told None text line why handed refused = absurd refused
refused_told (Some all) text line why handed refused = refused_front all text line why handed refused (small all line why refused)

-- the line of the refusal that was found is that of any refusal
pub refuses_same : (l line : ℕ) (c why : Cause) (sink : SinkSeen) (s : Status) → (l ≡ line) × (c ≡ why) →
    IsEndOfRefusal l c sink s → IsEndOfRefusal line why sink s
refuses_same l line c why sink s same came =
    subst (λ k. IsEndOfRefusal line k sink s) same.1 (subst (λ n. IsEndOfRefusal n c sink s) same.0 came)

-- what is read of a source spells a script where its bytes do
pub spelled : (left : Option (List ℕ)) (text : List ℕ) (m : Meaning) → SourceGaveFront left (MAX_TEXT + 1) text → Spells text m → IsSpelled left m
spelled None text m handed spells = (text, tt, spells)
spelled (Some all) text m handed spells = (text, whole all text handed spells.small, spells)

pub spelled_told : (left : Option (List ℕ)) (text : List ℕ) (m : Meaning) → SourceGaveFront left (MAX_TEXT + 1) text →
    IsToldSpelled left m → Spells text m
spelled_told None text m handed spells = absurd spells
spelled_told (Some all) text m handed spells =
    subst (λ t. Spells t m) (sym (handed ∙ take_all (MAX_TEXT + 1) all (omega (arith, spells.small)))) spells

-- what a played script leaves is how a call may end
pub ends_of_played : (source : SourceSeen) (sink : SinkSeen) (m : Meaning) (s : Status) → IsSpelled source.left m → IsEndOfPlay m sink s →
    IsEndOfCall source sink s
ends_of_played source sink m ended.Written read played = (m, read, played)
ends_of_played source sink m ended.Refused read played = absurd played
ends_of_played source sink m ended.Usage read played = absurd played
ends_of_played source sink m ended.ReadFault read played = absurd played
ends_of_played source sink m ended.WriteFault read played = (text m MAX_ENTRIES, OfScript m read, played)
ends_of_played source sink m ended.WireFault read played = absurd played
ends_of_played source sink m ended.Memory read played = played
ends_of_played source sink m ended.Spent read played = (m, read, played)
ends_of_played source sink m ended.Unfinished read played = absurd played
ends_of_played source sink m ended.TooManyStreams read played = absurd played

ends_of_refusal : (line : ℕ) (why : Cause) (source : SourceSeen) (sink : SinkSeen) (s : Status) → IsRefusedAt source.left line why →
    IsEndOfRefusal line why sink s → IsEndOfReading source sink s
ends_of_refusal line why source sink ended.Written at refused = absurd refused
ends_of_refusal line why source sink ended.Refused at refused = (line, why, at, refused)
ends_of_refusal line why source sink ended.Usage at refused = absurd refused
ends_of_refusal line why source sink ended.ReadFault at refused = absurd refused
ends_of_refusal line why source sink ended.WriteFault at refused = (bad_line line (cause_text why), OfRefusal line why at, refused)
ends_of_refusal line why source sink ended.WireFault at refused = absurd refused
ends_of_refusal line why source sink ended.Memory at refused = refused
ends_of_refusal line why source sink ended.Spent at refused = absurd refused
ends_of_refusal line why source sink ended.Unfinished at refused = absurd refused
ends_of_refusal line why source sink ended.TooManyStreams at refused = absurd refused

-- what a refused text leaves is how a reading may end
pub ends_of_refused : (text : List ℕ) (line : ℕ) (why : Cause) (source : SourceSeen) (sink : SinkSeen) (s : Status) →
    SourceGaveFront source.left (MAX_TEXT + 1) text → Refused text line why → IsEndOfRefusal line why sink s → IsEndOfReading source sink s
ends_of_refused text line why source sink s handed refused came =
    ends_of_refusal line why source sink s (refused_at source.left text line why handed refused) came

-- where there is no script, the call ends as its reading did
pub ends_unread : (source : SourceSeen) (sink : SinkSeen) (s : Status) → IsEndOfReading source sink s → IsEndOfCall source sink s
ends_unread source sink ended.Written unread = absurd unread
ends_unread source sink ended.Refused unread = unread
ends_unread source sink ended.Usage unread = absurd unread
ends_unread source sink ended.ReadFault unread = unread
ends_unread source sink ended.WriteFault unread = (unread.0, OfUnread unread.0 unread.1, unread.2)
ends_unread source sink ended.WireFault unread = absurd unread
ends_unread source sink ended.Memory unread = unread
ends_unread source sink ended.Spent unread = absurd unread
ends_unread source sink ended.Unfinished unread = absurd unread
ends_unread source sink ended.TooManyStreams unread = absurd unread

-- a played script ends in one of three ways, where the sink does not fail
pub plays : (m : Meaning) (sink : SinkSeen) (s : Status) → IsEndOfPlay m sink s → (HasRisen sink.faults_before sink.faults_after → ⊥) →
    (s ≡ ended.Written) ⊎ ((s ≡ ended.Memory) ⊎ (s ≡ ended.Spent))
plays m sink ended.Written played well = inl refl
plays m sink ended.Refused played well = absurd played
plays m sink ended.Usage played well = absurd played
plays m sink ended.ReadFault played well = absurd played
plays m sink ended.WriteFault played well = absurd (well played.0)
plays m sink ended.WireFault played well = absurd played
plays m sink ended.Unfinished played well = absurd played
plays m sink ended.TooManyStreams played well = absurd played
plays m sink ended.Memory played well = inr (inl refl)
plays m sink ended.Spent played well = inr (inr refl)

-- what is said of a source that failed is how a reading may end
pub ends_of_fault : (source : SourceSeen) (sink : SinkSeen) (s : Status) → HasRisen source.faults_before source.faults_after →
    (s ≡ ended.ReadFault × HasTaken sink read_fault_line) ⊎ (s ≡ ended.WriteFault × HasRisen sink.faults_before sink.faults_after) →
    SinkGainedFront sink.held_before sink.held_after read_fault_line → IsEndOfReading source sink s
ends_of_fault source sink s risen (inl said) begun = subst (IsEndOfReading source sink) (sym said.0) (risen, said.1)
ends_of_fault source sink s risen (inr failed) begun =
    subst (IsEndOfReading source sink) (sym failed.0) (read_fault_line, OfReadFault risen, (failed.1, begun))

-- a script that ran to its end is answered by a text whose last line is `end ok`
last_line : (all a b e : List ℕ) → all ≡ a ++ (b ++ e) → (front : List ℕ) × (all ≡ front ++ e)
last_line all a b e is = (a ++ b, is ∙ sym (append_assoc a b e))

pub ends_in_end_line : (m : Meaning) (before after : Option (List ℕ)) → IsPlayed m before after →
    (front : List ℕ) × SinkGained before after (front ++ end_line)
ends_in_end_line m before after played =
    let last = last_line (text m MAX_ENTRIES) (lines played.past) _ end_line (ap (text_of m.hosts) played.leads) in
    (last.0, subst (SinkGained before after) last.1 played.written)
