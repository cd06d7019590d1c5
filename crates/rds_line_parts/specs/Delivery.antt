-- What a line counts of a datagram that it has put into the mailbox of a slot. Source: this project's own.
use Rattle.std.specs.Prelude.{◌≡◌, ℕ, ◌+◌, ◌/◌, ◌==◌, ◌||◌, nat_lt, not, if◌then◌else◌, Bool, true, false, List, [], ◌∷◌, ◌++◌, Option, Some, None}
use Rattle.rds_bindtab.specs.Seats.{PortSeat, after_look}
use Rattle.rds_bindtab.specs.Seats as ports
use Rattle.rds_meter.specs.declared.view.View.{View}
use Rattle.rds_meter.specs.declared.view.Check.{Check}
use Rattle.rds_meter.specs.declared.view.Step.{Step}
use Rattle.rds_meter.specs.declared.view.Step.TheVariants.{Added, Loaded, Raised, Lowered, Bumped}
use Rattle.rds_meter.specs.declared.mark.Mark.{Mark}
use Rattle.rds_meter.specs.Places.{limit_word, put_word, taken_word}
use Rattle.rds_meter.specs.Seats.{MeterSeat, knowing, after_add, after_load, must_raise}
use Rattle.rds_line_parts.specs.Words.{after_steps}

-- the check whose numbers the mark has, and which raised the bit of the mark's port if the mark is set
abbrev pub check_of : ℕ → Mark → Check
check_of slot mark = record { slot = slot; put = mark.put; limit = mark.limit; taken = mark.taken; raised = if mark.set then Some mark.port else None }

-- the view after n bytes were added to the put word, and the limit and the taken word were loaded
abbrev pub after_check : View → ℕ → ℕ → Mark → View
after_check v slot n mark = after_load (after_load (after_add v (put_word slot) n mark.put) (limit_word slot) mark.limit) (taken_word slot) mark.taken

-- the bit of a port is set, and the change counted
abbrev pub raising : Bool → ℕ → ℕ → List Step
raising false port number = []
raising true port number = Raised port ∷ Bumped number ∷ []

-- n bytes are added to the put word, the limit and the taken word are loaded, and the bit is raised if the mark is set
abbrev pub counting_steps : ℕ → ℕ → Mark → ℕ → List Step
counting_steps slot n mark number =
    Added (put_word slot) n mark.put ∷ Loaded (limit_word slot) mark.limit ∷ Loaded (taken_word slot) mark.taken ∷ raising mark.set mark.port number

-- the view after one more check, and after these steps
abbrev pub with_check : View → Check → List Step → View
with_check v check steps = record v { checks = v.checks ++ check ∷ []; steps = v.steps ++ steps }

-- n bytes were counted for the slot at the port, with one check. The port's bit was raised exactly where a limit is set and
-- put less taken is above it
pub record CountsBytes (slot port n : ℕ) (old new : MeterSeat) (mark : Mark) : Type 0 where
  pub number : ℕ
  pub port_is : mark.port ≡ port
  pub rule : mark.set ≡ must_raise (check_of slot mark)
  pub seat : new ≡ knowing old (with_check old.view (check_of slot mark) (counting_steps slot n mark number))

-- whether the slot was found to hold the port
abbrev pub is_held_by : ℕ → Option ℕ → Bool
is_held_by slot None = false
is_held_by slot (Some holder) = holder == slot

-- a bit that was raised has to be lowered where put less taken is below half the limit by now, or the slot holds the port no more
abbrev pub must_lower : ℕ → Mark → ℕ → Option ℕ → Bool
must_lower slot mark taken holder = nat_lt mark.put (taken + mark.limit / 2) || not (is_held_by slot holder)

-- the bit of a port is cleared, and the change counted
abbrev pub lowering : Bool → ℕ → ℕ → List Step
lowering false port number = []
lowering true port number = Lowered port ∷ Bumped number ∷ []

-- the taken word and the port's word were loaded once more, and the bit was lowered exactly where it had to be
pub record IsSecondLook (slot : ℕ) (mark : Mark) (old new : MeterSeat) (ports_old ports_new : PortSeat) : Type 0 where
  pub taken : ℕ
  pub holder : Option ℕ
  pub number : ℕ
  pub ports : ports_new ≡ ports.knowing ports_old (after_look ports_old.view mark.port holder)
  pub seat : new ≡ knowing old (after_steps old.view (Loaded (taken_word slot) taken ∷ lowering (must_lower slot mark taken holder) mark.port number))

-- n bytes were counted for the slot at the port, and a second look followed exactly where the port's bit was raised
pub record IsDelivery (slot port n : ℕ) (old new : MeterSeat) (ports_old ports_new : PortSeat) : Type 0 where
  pub mark : Mark
  pub counted : MeterSeat
  pub counts : CountsBytes slot port n old counted mark
  pub raised : mark.set ≡ true → IsSecondLook slot mark counted new ports_old ports_new
  pub other : mark.set ≡ false → (new ≡ counted) × (ports_new ≡ ports_old)
