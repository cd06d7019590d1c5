use Rattle.rds_frame.proofs.Keeping.{IsHeld-fields}
use Rattle.rds_frame.proofs.Taking.{Keeps-done}
use Rattle.rds_frame.proofs.splitter.Splitter.done.Goals as goal

pub returns-clause-held : goal.returns-clause-held
returns-clause-held c =
    let s = c.self.inside in
    let left = c.take.new.self in
    IsHeld-fields s.head s.came s.body left s.refused
    (Keeps-done s.head s.came s.body s.waiting left s.refused c.self.invariant c.take.ensures.after)
