use Rattle.std.proofs.Common.{refl, arith, rules, ◌≡◌, ℕ, Option, List, Ok, Err, IsOk}
use Rattle.rds_model.specs.declared.journal.TheConstants.{MAX_ENTRIES}
use Rattle.rds_link.specs.Streaming.{SinkGained}
use Rattle.rds_script.specs.Grammar.{Meaning}
use Rattle.rds_history.specs.Events.{Event}
use Rattle.rds_history.specs.History.{course, text}
use Rattle.rds_history.specs.Sound.{IsSoundPast}
use Rattle.rds_history.specs.Courses.{Course}
use Rattle.rds_run.specs.ExitStatus.{IsPlayed}
use Rattle.rds_run.proofs.play_command.play_script.Goals as goal

-- a course that is no full journal leads to a past
leads : (c : Course) → IsOk c → (past : List Event) × (c ≡ Ok past)
leads (Ok past) ok = (past, refl)
leads (Err full) ok = absurd (search rules)

-- what a script that ran to its end leaves
is_played : (s : Meaning) (held_before held_after : Option (List ℕ)) (past : List Event) → course s MAX_ENTRIES ≡ Ok past → IsSoundPast s.hosts past →
    SinkGained held_before held_after (text s MAX_ENTRIES) → IsPlayed s held_before held_after
is_played s held_before held_after past leads_to sound written = record { past = past; leads = leads_to; sound = sound; written = written }

pub returns-in-Ok : goal.returns-in-Ok
returns-in-Ok g c =
    let played = c.in-Ok.ensures.ok refl in
    let led = leads _ played.0 in
    is_played _ _ _ led.0 led.1 (c.sound.ensures _ MAX_ENTRIES led.0 c.requires (omega arith) led.1) played.1

pub returns-in-Spent : goal.returns-in-Spent
returns-in-Spent g c =
    let spent = c.in-Spent.ensures.spent c.in-Spent.host c.in-Spent.peer c.in-Spent.entries refl in
    record { full = _; ends = spent.0; written = spent.1 }

pub returns-in-WriteFault : goal.returns-in-WriteFault
returns-in-WriteFault g c = c.in-WriteFault.ensures.fault refl
