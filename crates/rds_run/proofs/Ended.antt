-- What the program's exit status says, by how it ends.
use Rattle.std.proofs.Common.{◌≡◌, ◌⊎◌, inl, inr, ℕ, ◌<◌, ◌≤◌, ◌++◌, Bool, true, false, List, String, sym, ap, subst, ⊎_elim, ◌∙◌, refl, arith}
use Rattle.rds_link.specs.Seen.{SinkSeen, SourceSeen}
use Rattle.std.specs.Global.{Global}
use Rattle.rds_link.specs.Streaming.{HasRisen, SinkGained, SinkGainedFront}
use Rattle.rds_script.specs.declared.cause.Cause.{Cause}
use Rattle.rds_script.specs.Grammar.{Meaning}
use Rattle.rds_text.specs.Lines.{end_line, spent_line}
use Rattle.rds_history.specs.History.{text_of as played_text}
use Rattle.rds_run.specs.declared.status.Status.{Status}
use Rattle.rds_run.specs.declared.status.Status.TheVariants as ended
use Rattle.rds_run.specs.ExitStatus.{HasTaken, IsAnswer, code, IsEndOfCall, IsEndOfRefusal, IsPlayed, IsRefusal, IsSpelled, IsSpent, IsToldRefused, IsToldSpelled}
use Rattle.rds_run.specs.Reading.{IsEndOfReading}
use Rattle.rds_run.specs.RunStatus.{HasFilled, IsEndOfGenCall, IsEndOfRunCall, IsEndOfRunOver, IsEndOfScript, IsEndOfTooMany, IsRan, IsRunUnfinished, IsTooMany, IsWireFault, Ran, TooMany, WireSeen, memory_seen, seen_over, tells_over}
use Rattle.rds_run_hosts.specs.Streams.{prepared_streams}
use Rattle.rds_run.specs.Texts.{read_fault_line, too_many_line, usage_line}
use Rattle.rds_run.specs.Ending.{IsEndOfProgram, IsEndOfRunning, IsEndOfUsage, OfGen, OfMemory, OfNone, OfPlay, OfRun, ReadsScript}
use Rattle.rds_script_gen.specs.Generator.{generated}
use Rattle.rds_run_threads.specs.declared.form.Form.TheVariants as form
use Rattle.rds_run.specs.declared.wire.RunWire.{RunWire}
use Rattle.rds_run.specs.declared.wire.RunWire.TheVariants as wire
use Rattle.rds_run.specs.GenWords.{AreGen}
use Rattle.rds_run.specs.PlayWords.{ArePlay}
use Rattle.rds_run.specs.RunWords.{AreRun}
use Rattle.rds_run.specs.Works.{AreNoCommand}
use Rattle.rds_run.proofs.Codes.{IsRefusalCode, IsTooManyCode, is_of, of_code, refusal_found, too_many_found, usage_codes}
use Rattle.rds_run.proofs.Commands.{play_or_gen, play_or_run, run_or_gen, same_gen, same_wire}
use Rattle.rds_run.proofs.Whole.{ends_in_end_line}

-- the words of no command are answered by the usage line
pub usage_of : (sink : SinkSeen) (s : Status) → ((s ≡ ended.Usage) × HasTaken sink usage_line) ⊎ ((s ≡ ended.WriteFault) × HasRisen sink.faults_before sink.faults_after)
    → SinkGainedFront sink.held_before sink.held_after usage_line → IsEndOfUsage sink s
usage_of sink s (inl t) begun = subst (IsEndOfUsage sink) (sym t.0) t.1
usage_of sink s (inr t) begun = subst (IsEndOfUsage sink) (sym t.0) (t.1, begun)

-- the words are those of one command, which ended so
pub of_play : (tcp : WireSeen) (words : List (String Global)) (source : SourceSeen) (sink : SinkSeen) (s : Status) → ArePlay words → IsEndOfCall source sink s
    → ((line : ℕ) (why : Cause) → IsToldRefused source.left line why → IsEndOfRefusal line why sink s ⊎ ((s ≡ ended.ReadFault) ⊎ (s ≡ ended.WriteFault)))
    → ((m : Meaning) → IsToldSpelled source.left m → (HasRisen source.faults_before source.faults_after → ⊥) → (HasRisen sink.faults_before sink.faults_after → ⊥)
    → (s ≡ ended.Written) ⊎ ((s ≡ ended.Memory) ⊎ (s ≡ ended.Spent))) → IsEndOfProgram tcp words source sink s
of_play tcp words source sink s is ends refuses plays = OfPlay is (record { ends = ends; refuses = refuses; plays = plays })

pub of_run : (tcp : WireSeen) (words : List (String Global)) (source : SourceSeen) (sink : SinkSeen) (s : Status) (over : RunWire) → AreRun words over
    → IsEndOfRunCall (seen_over over tcp) over source sink s
    → ((line : ℕ) (why : Cause) → IsToldRefused source.left line why → IsEndOfRefusal line why sink s ⊎ ((s ≡ ended.ReadFault) ⊎ (s ≡ ended.WriteFault)))
    → ((m : Meaning) → IsToldSpelled source.left m → IsTooMany over m → IsEndOfTooMany (prepared_streams m) sink s ⊎ ((s ≡ ended.ReadFault) ⊎ (s ≡ ended.WriteFault)))
    → ((m : Meaning) → IsToldSpelled source.left m → (HasRisen source.faults_before source.faults_after → ⊥) → IsEndOfRunOver (seen_over over tcp) over m sink s ⊎ (s ≡ ended.Memory))
    → IsEndOfProgram tcp words source sink s
of_run tcp words source sink s over is ends refuses too_many runs = OfRun over is (record { ends = ends; refuses = refuses; too_many = too_many; runs = runs })

-- no count rose that stood at nothing all the time
pub never_risen : HasRisen 0 0 → ⊥
never_risen (inl less) = omega (arith, less)
never_risen (inr last) = omega (arith, last)

-- 96 streams are not too many
few_of : (m : Meaning) → (IsTooMany wire.Tcp m → ⊥) → prepared_streams m ≤ 96
few_of m none = let not_above : 96 < prepared_streams m → ⊥ = λ above. none (refl, above) in omega (arith, not_above)

module _ (tcp : WireSeen) (words : List (String Global)) (source : SourceSeen) (sink : SinkSeen) where
  abbrev pub Ends : Status → Type 0
  Ends s = IsEndOfProgram tcp words source sink s

  -- what a call of `run` with this status leads to: no script was read, or one with too many streams, or one was run
  pub by_run : (over : RunWire) (s : Status) (P : Type 0) → (IsEndOfReading source sink s → P)
      → ((m : Meaning) → IsSpelled source.left m → IsTooMany over m → IsEndOfTooMany (prepared_streams m) sink s → P)
      → ((m : Meaning) → IsSpelled source.left m → (IsTooMany over m → ⊥) → IsEndOfScript (seen_over over tcp) form.Report m sink s → P)
      → IsEndOfRunCall (seen_over over tcp) over source sink s → P
  by_run over s P unread many ran (inl e) = unread e
  by_run over s P unread many ran (inr e) = go e.2
    where
      go : IsEndOfRunOver (seen_over over tcp) over e.0 sink s → P
      go (TooMany is end) = many e.0 e.1 is end
      go (Ran few end) = ran e.0 e.1 few end

  pub ends_at : (s : Status) (n : ℕ) → Ends s → code s ≡ n → Ends (of_code n)
  ends_at s n end e = subst Ends (is_of s n e) end

  abbrev AreUsageCodes : ℕ → Type 0
  AreUsageCodes n = (n ≡ 2) ⊎ ((n ≡ 4) ⊎ (n ≡ 6))

  usage_code : (s : Status) → Ends s → AreNoCommand words → AreUsageCodes (code s)
  usage_code s (OfPlay is e) none = absurd (none.no_play is)
  usage_code s (OfRun over is e) none = absurd (none.no_run over is)
  usage_code s (OfGen sends seed is e) none = absurd (none.no_gen sends seed is)
  usage_code s (OfNone none e) _ = ⊎_elim (λ (t : code s ≡ 2). inl t) (λ (t : code s ≡ 4). inr (inl t)) (usage_codes sink s e)
  usage_code s (OfMemory e same) none = inr (inr (ap code e))

  pub usage : (s : Status) (n : ℕ) → n ≡ code s → Ends s → AreNoCommand words → AreUsageCodes n
  usage s n is end none = subst AreUsageCodes (sym is) (usage_code s end none)

  usage_at : Ends ended.Usage → AreNoCommand words × HasTaken sink usage_line
  usage_at (OfPlay is e) = absurd e.ends
  usage_at (OfRun over is e) = by_run over _ _ (λ r. absurd r) (λ m read many r. absurd r) (λ m read few r. absurd r) e.ends
  usage_at (OfGen sends seed is e) = absurd e
  usage_at (OfNone none e) = (none, e)
  usage_at (OfMemory e same) = absurd (cc)

  pub usage_only : (s : Status) (n : ℕ) → n ≡ code s → Ends s → n ≡ 2 → AreNoCommand words
  usage_only s n is end e = (usage_at (ends_at s 2 end (sym is ∙ e))).0

  pub usage_text : (s : Status) (n : ℕ) → n ≡ code s → Ends s → n ≡ 2 → HasTaken sink usage_line
  usage_text s n is end e = (usage_at (ends_at s 2 end (sym is ∙ e))).1

  read_at : Ends ended.ReadFault → HasRisen source.faults_before source.faults_after × HasTaken sink read_fault_line
  read_at (OfPlay is e) = e.ends
  read_at (OfRun over is e) = by_run over _ _ (λ r. r) (λ m read many r. absurd r) (λ m read few r. absurd r) e.ends
  read_at (OfGen sends seed is e) = absurd e
  read_at (OfNone none e) = absurd e
  read_at (OfMemory e same) = absurd (cc)

  pub read_fault : (s : Status) (n : ℕ) → n ≡ code s → Ends s → n ≡ 3 → HasRisen source.faults_before source.faults_after
  read_fault s n is end e = (read_at (ends_at s 3 end (sym is ∙ e))).0

  pub read_fault_text : (s : Status) (n : ℕ) → n ≡ code s → Ends s → n ≡ 3 → HasTaken sink read_fault_line
  read_fault_text s n is end e = (read_at (ends_at s 3 end (sym is ∙ e))).1

  write_at : Ends ended.WriteFault → HasRisen sink.faults_before sink.faults_after
  write_at (OfPlay is e) = e.ends.2.0
  write_at (OfRun over is e) = by_run over _ _ (λ r. r.2.0) (λ m read many r. r.0) (λ m read few r. r.2.0) e.ends
  write_at (OfGen sends seed is e) = e.2.0
  write_at (OfNone none e) = e.0
  write_at (OfMemory e same) = absurd (cc)

  pub write_fault : (s : Status) (n : ℕ) → n ≡ code s → Ends s → n ≡ 4 → HasRisen sink.faults_before sink.faults_after
  write_fault s n is end e = write_at (ends_at s 4 end (sym is ∙ e))

  usage_begun_at : Ends ended.WriteFault → AreNoCommand words → SinkGainedFront sink.held_before sink.held_after usage_line
  usage_begun_at (OfPlay is e) free = absurd (free.no_play is)
  usage_begun_at (OfRun over is e) free = absurd (free.no_run over is)
  usage_begun_at (OfGen sends seed is e) free = absurd (free.no_gen sends seed is)
  usage_begun_at (OfNone none e) free = e.1
  usage_begun_at (OfMemory e same) free = absurd (cc)

  pub usage_begun : (s : Status) (n : ℕ) → n ≡ code s → Ends s → n ≡ 4 → AreNoCommand words → SinkGainedFront sink.held_before sink.held_after usage_line
  usage_begun s n is end e = usage_begun_at (ends_at s 4 end (sym is ∙ e))

  abbrev IsBegun : Type 0
  IsBegun = (answer : List ℕ) × IsAnswer source answer × SinkGainedFront sink.held_before sink.held_after answer

  answer_begun_at : Ends ended.WriteFault → ArePlay words → IsBegun
  answer_begun_at (OfPlay is e) play = (e.ends.0, e.ends.1, e.ends.2.1)
  answer_begun_at (OfRun over is e) play = absurd (play_or_run words over play is)
  answer_begun_at (OfGen sends seed is e) play = absurd (play_or_gen words sends seed play is)
  answer_begun_at (OfNone none e) play = absurd (none.no_play play)
  answer_begun_at (OfMemory e same) play = absurd (cc)

  pub answer_begun : (s : Status) (n : ℕ) → n ≡ code s → Ends s → n ≡ 4 → ArePlay words → IsBegun
  answer_begun s n is end e = answer_begun_at (ends_at s 4 end (sym is ∙ e))

  memory_at : Ends ended.Memory → sink.held_after ≡ sink.held_before
  memory_at (OfPlay is e) = e.ends
  memory_at (OfRun over is e) = by_run over _ _ (λ r. r) (λ m read many r. r) (λ m read few r. r) e.ends
  memory_at (OfGen sends seed is e) = e
  memory_at (OfNone none e) = absurd e
  memory_at (OfMemory e same) = same

  pub memory : (s : Status) (n : ℕ) → n ≡ code s → Ends s → n ≡ 6 → sink.held_after ≡ sink.held_before
  memory s n is end e = memory_at (ends_at s 6 end (sym is ∙ e))

  refused_at : Ends ended.Refused → ReadsScript words × IsRefusal source.left sink.held_before sink.held_after
  refused_at (OfPlay is e) = (inl is, e.ends)
  refused_at (OfRun over is e) = (inr (over, is), by_run over _ _ (λ r. r) (λ m read many r. absurd r) (λ m read few r. absurd r) e.ends)
  refused_at (OfGen sends seed is e) = absurd e
  refused_at (OfNone none e) = absurd e
  refused_at (OfMemory e same) = absurd (cc)

  pub refused : (s : Status) (n : ℕ) → n ≡ code s → Ends s → n ≡ 1 → ReadsScript words × IsRefusal source.left sink.held_before sink.held_after
  refused s n is end e = refused_at (ends_at s 1 end (sym is ∙ e))

  refusal_code : (s : Status) → Ends s → ArePlay words ⊎ ((over : RunWire) × AreRun words over) → (line : ℕ) (why : Cause) → IsToldRefused source.left line why → IsRefusalCode line why sink (code s)
  refusal_code s (OfPlay is e) asked line why told = refusal_found line why sink s (e.refuses line why told)
  refusal_code s (OfRun over is e) asked line why told = refusal_found line why sink s (e.refuses line why told)
  refusal_code s (OfGen sends seed is e) (inl play) line why told = absurd (play_or_gen words sends seed play is)
  refusal_code s (OfGen sends seed is e) (inr run) line why told = absurd (run_or_gen words run.0 sends seed run.1 is)
  refusal_code s (OfNone none e) (inl play) line why told = absurd (none.no_play play)
  refusal_code s (OfNone none e) (inr run) line why told = absurd (none.no_run run.0 run.1)
  refusal_code s (OfMemory e same) asked line why told = inr (inr (inr (ap code e)))

  pub refuses : (s : Status) (n : ℕ) → n ≡ code s → Ends s → ArePlay words ⊎ ((over : RunWire) × AreRun words over) → (line : ℕ) (why : Cause) → IsToldRefused source.left line why → IsRefusalCode line why sink n
  refuses s n is end asked line why told = subst (IsRefusalCode line why sink) (sym is) (refusal_code s end asked line why told)

  abbrev IsPlayedWhole : Type 0
  IsPlayedWhole = (m : Meaning) × IsSpelled source.left m × IsPlayed m sink.held_before sink.held_after

  played_at : Ends ended.Written → ArePlay words → IsPlayedWhole
  played_at (OfPlay is e) play = e.ends
  played_at (OfRun over is e) play = absurd (play_or_run words over play is)
  played_at (OfGen sends seed is e) play = absurd (play_or_gen words sends seed play is)
  played_at (OfNone none e) play = absurd (none.no_play play)
  played_at (OfMemory e same) play = absurd (cc)

  pub played : (s : Status) (n : ℕ) → n ≡ code s → Ends s → ArePlay words → n ≡ 0 → IsPlayedWhole
  played s n is end play e = played_at (ends_at s 0 end (sym is ∙ e)) play

  pub written : (s : Status) (n : ℕ) → n ≡ code s → Ends s → ArePlay words → n ≡ 0 → (front : List ℕ) × SinkGained sink.held_before sink.held_after (front ++ end_line)
  written s n is end play e = let p = played s n is end play e in ends_in_end_line p.0 sink.held_before sink.held_after p.2

  -- words of `run` over a wire end the program as `run` over that wire ended, unless memory ran out before
  abbrev pub HasRun : RunWire → Status → Type 0
  HasRun over s = IsEndOfRunning (seen_over over tcp) over source sink s ⊎ ((s ≡ ended.Memory) × (sink.held_after ≡ sink.held_before))

  pub run_at : (over : RunWire) (s : Status) → Ends s → AreRun words over → HasRun over s
  run_at over s (OfPlay is e) run = absurd (play_or_run words over is run)
  run_at over s (OfRun asked is e) run = subst (λ (w : RunWire). HasRun w s) (same_wire words asked over is run) (inl e)
  run_at over s (OfGen sends seed is e) run = absurd (run_or_gen words over sends seed run is)
  run_at over s (OfNone none e) run = absurd (none.no_run over run)
  run_at over s (OfMemory e same) run = inr (e, same)

  abbrev IsRanWhole : RunWire → Type 0
  IsRanWhole over = (m : Meaning) × IsSpelled source.left m × IsRan (seen_over over tcp) form.Report m sink.held_before sink.held_after
      × (IsTooMany over m → ⊥)

  ran_at : (over : RunWire) → HasRun over ended.Written → IsRanWhole over
  ran_at over (inl e) = by_run over _ _ (λ r. absurd r) (λ m read many r. absurd r) (λ m read few r. (m, read, r, few)) e.ends
  ran_at over (inr none) = let e = none.0 in absurd (cc)

  ran_whole : (over : RunWire) (s : Status) (n : ℕ) → n ≡ code s → Ends s → AreRun words over → n ≡ 0 → IsRanWhole over
  ran_whole over s n is end run e = ran_at over (run_at over ended.Written (ends_at s 0 end (sym is ∙ e)) run)

  pub ran : (s : Status) (n : ℕ) → n ≡ code s → Ends s → AreRun words wire.Memory → n ≡ 0 →
      (m : Meaning) × IsSpelled source.left m × IsRan memory_seen form.Report m sink.held_before sink.held_after
  ran s n is end run e = let r = ran_whole wire.Memory s n is end run e in (r.0, r.1, r.2)

  pub ran_over_tcp : (s : Status) (n : ℕ) → n ≡ code s → Ends s → AreRun words wire.Tcp → n ≡ 0 →
      (m : Meaning) × IsSpelled source.left m × (prepared_streams m ≤ 96) × IsRan tcp form.Report m sink.held_before sink.held_after
  ran_over_tcp s n is end run e = let r = ran_whole wire.Tcp s n is end run e in (r.0, r.1, few_of r.0 r.3, r.2)

  pub gen_at : (sends seed : ℕ) (s : Status) → Ends s → AreGen words sends seed → IsEndOfGenCall sends seed sink s ⊎ ((s ≡ ended.Memory) × (sink.held_after ≡ sink.held_before))
  gen_at sends seed s (OfPlay is e) gen = absurd (play_or_gen words sends seed is gen)
  gen_at sends seed s (OfRun over is e) gen = absurd (run_or_gen words over sends seed is gen)
  gen_at sends seed s (OfGen n k is e) gen =
      let same = same_gen words n k sends seed is gen in
      inl (subst (λ (x : ℕ). IsEndOfGenCall x seed sink s) same.0 (subst (λ (x : ℕ). IsEndOfGenCall n x sink s) same.1 e))
  gen_at sends seed s (OfNone none e) gen = absurd (none.no_gen sends seed gen)
  gen_at sends seed s (OfMemory e same) gen = inr (e, same)

  pub summed : (s : Status) (n : ℕ) → n ≡ code s → Ends s → (sends seed : ℕ) → AreGen words sends seed → n ≡ 0 →
      IsRan memory_seen (form.Summary seed sends) (generated sends seed) sink.held_before sink.held_after
  summed s n is end sends seed gen e = go (gen_at sends seed ended.Written (ends_at s 0 end (sym is ∙ e)) gen)
    where
      go : IsEndOfGenCall sends seed sink ended.Written ⊎ ((ended.Written ≡ ended.Memory) × (sink.held_after ≡ sink.held_before)) →
          IsRan memory_seen (form.Summary seed sends) (generated sends seed) sink.held_before sink.held_after
      go (inl ran) = ran
      go (inr none) = let e = none.0 in absurd (cc)

  abbrev IsFull : Type 0
  IsFull = (m : Meaning) × IsSpelled source.left m × IsSpent m sink.held_before sink.held_after

  full_at : Ends ended.Spent → ArePlay words → IsFull
  full_at (OfPlay is e) play = e.ends
  full_at (OfRun over is e) play = absurd (play_or_run words over play is)
  full_at (OfGen sends seed is e) play = absurd (play_or_gen words sends seed play is)
  full_at (OfNone none e) play = absurd (none.no_play play)
  full_at (OfMemory e same) play = absurd (cc)

  pub full : (s : Status) (n : ℕ) → n ≡ code s → Ends s → ArePlay words → n ≡ 7 → IsFull
  full s n is end play e = full_at (ends_at s 7 end (sym is ∙ e)) play

  abbrev IsFilled : RunWire → Type 0
  IsFilled over = (m : Meaning) × IsSpelled source.left m × HasFilled (tells_over over tcp.tells) m sink.held_before sink.held_after

  -- what the ends of a wire tell is what is seen of it
  tells_seen : (over : RunWire) → (seen_over over tcp).tells ≡ tells_over over tcp.tells
  tells_seen wire.Memory = refl
  tells_seen wire.Tcp = refl

  filled_at : (over : RunWire) → HasRun over ended.Spent → IsFilled over
  filled_at over (inl e) = by_run over _ _ (λ r. absurd r) (λ m read many r. absurd r) (λ m read few r. (m, read, subst (λ (b : Bool). HasFilled b m sink.held_before sink.held_after) (tells_seen over) r)) e.ends
  filled_at over (inr none) = let e = none.0 in absurd (cc)

  pub filled : (s : Status) (n : ℕ) → n ≡ code s → Ends s → (over : RunWire) → AreRun words over → n ≡ 7 → IsFilled over
  filled s n is end over run e = filled_at over (run_at over ended.Spent (ends_at s 7 end (sym is ∙ e)) run)

  filled_by_gen_at : (sends seed : ℕ) → IsEndOfGenCall sends seed sink ended.Spent ⊎ ((ended.Spent ≡ ended.Memory) × (sink.held_after ≡ sink.held_before)) →
      HasFilled true (generated sends seed) sink.held_before sink.held_after
  filled_by_gen_at sends seed (inl e) = e
  filled_by_gen_at sends seed (inr none) = let e = none.0 in absurd (cc)

  pub filled_by_gen : (s : Status) (n : ℕ) → n ≡ code s → Ends s → (sends seed : ℕ) → AreGen words sends seed → n ≡ 7 →
      HasFilled true (generated sends seed) sink.held_before sink.held_after
  filled_by_gen s n is end sends seed gen e = filled_by_gen_at sends seed (gen_at sends seed ended.Spent (ends_at s 7 end (sym is ∙ e)) gen)

  abbrev HasSpent : Type 0
  HasSpent = (host peer entries : ℕ) × HasTaken sink (spent_line host peer entries)

  spent_at : Ends ended.Spent → HasSpent
  spent_at (OfPlay is e) =
      let m = e.ends.0 in
      let at = e.ends.2.full in
      (at.host, at.peer, at.entries, subst (HasTaken sink) (ap (played_text m.hosts) e.ends.2.ends) e.ends.2.written)
  spent_at (OfRun over is e) =
      by_run over _ _ (λ r. absurd r) (λ m read many r. absurd r) (λ m read few r. (r.host, r.peer, r.entries, r.written)) e.ends
  spent_at (OfGen sends seed is e) = (e.host, e.peer, e.entries, e.written)
  spent_at (OfNone none e) = absurd e
  spent_at (OfMemory e same) = absurd (cc)

  pub spent : (s : Status) (n : ℕ) → n ≡ code s → Ends s → n ≡ 7 → HasSpent
  spent s n is end e = spent_at (ends_at s 7 end (sym is ∙ e))

  abbrev ArePlayCodes : ℕ → Type 0
  ArePlayCodes n = (n ≡ 0) ⊎ ((n ≡ 6) ⊎ (n ≡ 7))

  play_code : (s : Status) → Ends s → ArePlay words → (m : Meaning) → IsToldSpelled source.left m → (HasRisen source.faults_before source.faults_after → ⊥)
      → (HasRisen sink.faults_before sink.faults_after → ⊥) → ArePlayCodes (code s)
  play_code s (OfPlay is e) play m told read wrote = ⊎_elim
      (λ (t : s ≡ ended.Written). inl (ap code t))
      (λ (t : (s ≡ ended.Memory) ⊎ (s ≡ ended.Spent)). inr (⊎_elim (λ (u : s ≡ ended.Memory). inl (ap code u)) (λ (u : s ≡ ended.Spent). inr (ap code u)) t))
      (e.plays m told read wrote)
  play_code s (OfRun over is e) play m told read wrote = absurd (play_or_run words over play is)
  play_code s (OfGen sends seed is e) play m told read wrote = absurd (play_or_gen words sends seed play is)
  play_code s (OfNone none e) play m told read wrote = absurd (none.no_play play)
  play_code s (OfMemory e same) play m told read wrote = inr (inl (ap code e))

  pub plays : (s : Status) (n : ℕ) → n ≡ code s → Ends s → ArePlay words → (m : Meaning) → IsToldSpelled source.left m → (HasRisen source.faults_before source.faults_after → ⊥)
      → (HasRisen sink.faults_before sink.faults_after → ⊥) → ArePlayCodes n
  plays s n is end play m told read wrote = subst ArePlayCodes (sym is) (play_code s end play m told read wrote)

  abbrev HasWireFault : Type 0
  HasWireFault =
      AreRun words wire.Tcp × HasRisen tcp.before.faults tcp.after.faults
      × ((m : Meaning) × IsSpelled source.left m × IsWireFault tcp m sink.held_before sink.held_after)

  wire_over : (over : RunWire) → AreRun words over
      → ((m : Meaning) × IsSpelled source.left m × IsWireFault (seen_over over tcp) m sink.held_before sink.held_after) → HasWireFault
  wire_over wire.Memory is r = absurd (never_risen r.2.rose)
  wire_over wire.Tcp is r = (is, r.2.rose, r)

  wire_at : Ends ended.WireFault → HasWireFault
  wire_at (OfPlay is e) = absurd e.ends
  wire_at (OfRun over is e) =
      wire_over over is (by_run over _ _ (λ r. absurd r) (λ m read many r. absurd r) (λ m read few r. (m, read, r)) e.ends)
  wire_at (OfGen sends seed is e) = absurd (never_risen e.rose)
  wire_at (OfNone none e) = absurd e
  wire_at (OfMemory e same) = absurd (cc)

  pub wire_fault : (s : Status) (n : ℕ) → n ≡ code s → Ends s → n ≡ 5 → HasWireFault
  wire_fault s n is end e = wire_at (ends_at s 5 end (sym is ∙ e))

  abbrev IsUnfinishedOver : RunWire → Type 0
  IsUnfinishedOver over = (m : Meaning) × IsSpelled source.left m × IsRunUnfinished (seen_over over tcp) m sink.held_before sink.held_after

  abbrev HasUnfinished : Type 0
  HasUnfinished =
      AreRun words wire.Tcp × (tcp.tells ≡ false)
      × ((m : Meaning) × IsSpelled source.left m × IsRunUnfinished tcp m sink.held_before sink.held_after)

  unfinished_over : (over : RunWire) → IsEndOfRunning (seen_over over tcp) over source sink ended.Unfinished → IsUnfinishedOver over
  unfinished_over over e = by_run over _ _ (λ r. absurd r) (λ m read many r. absurd r) (λ m read few r. (m, read, r)) e.ends

  unfinished_run : (over : RunWire) → AreRun words over → IsUnfinishedOver over → HasUnfinished
  unfinished_run wire.Memory is r = let told = r.2.unacknowledged.untold in absurd (cc)
  unfinished_run wire.Tcp is r = (is, r.2.unacknowledged.untold, r)

  unfinished_at : Ends ended.Unfinished → HasUnfinished
  unfinished_at (OfPlay is e) = absurd e.ends
  unfinished_at (OfRun over is e) = unfinished_run over is (unfinished_over over e)
  unfinished_at (OfGen sends seed is e) = let told = e.unacknowledged.untold in absurd (cc)
  unfinished_at (OfNone none e) = absurd e
  unfinished_at (OfMemory e same) = absurd (cc)

  pub unfinished : (s : Status) (n : ℕ) → n ≡ code s → Ends s → n ≡ 8 → HasUnfinished
  unfinished s n is end e = unfinished_at (ends_at s 8 end (sym is ∙ e))

  abbrev HasTooMany : Type 0
  HasTooMany = AreRun words wire.Tcp × ((m : Meaning) × IsSpelled source.left m × (96 < prepared_streams m) × HasTaken sink (too_many_line (prepared_streams m)))

  too_many_at : Ends ended.TooManyStreams → HasTooMany
  too_many_at (OfPlay is e) = absurd e.ends
  too_many_at (OfRun over is e) = by_run over _ _ (λ r. absurd r)
      (λ m read many r. (subst (λ (w : RunWire). AreRun words w) many.0 is, (m, read, many.1, r))) (λ m read few r. absurd r) e.ends
  too_many_at (OfGen sends seed is e) = absurd e
  too_many_at (OfNone none e) = absurd e
  too_many_at (OfMemory e same) = absurd (cc)

  pub too_many : (s : Status) (n : ℕ) → n ≡ code s → Ends s → n ≡ 9 → HasTooMany
  too_many s n is end e = too_many_at (ends_at s 9 end (sym is ∙ e))

  refuses_many_at : (s : Status) → HasRun wire.Tcp s → (m : Meaning) → IsToldSpelled source.left m → 96 < prepared_streams m →
      IsTooManyCode (prepared_streams m) sink (code s)
  refuses_many_at s (inl e) m told above = too_many_found (prepared_streams m) sink s (e.too_many m told (refl, above))
  refuses_many_at s (inr none) m told above = inr (inr (inr (ap code none.0)))

  pub refuses_many : (s : Status) (n : ℕ) → n ≡ code s → Ends s → AreRun words wire.Tcp → (m : Meaning) → IsToldSpelled source.left m →
      96 < prepared_streams m → IsTooManyCode (prepared_streams m) sink n
  refuses_many s n is end run m told above =
      subst (IsTooManyCode (prepared_streams m) sink) (sym is) (refuses_many_at s (run_at wire.Tcp s end run) m told above)
