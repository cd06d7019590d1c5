use Rattle.std.proofs.Common.{refl}
use Rattle.rds_script.proofs.Words.{Found, found_at}
use Rattle.rds_script.proofs.line.first_word.Goals as goal

finds : (c : goal.After-split_at) → Found c.args.line.now c.split_at.result.0.now c.split_at.result.1.now
finds c =
    found_at _ _ _ _ _ _ c.blanks.ensures.count refl c.word_end.ensures.place c.split_at.ensures.front c.split_at.ensures.back

pub returns-clause-word : goal.returns-clause-word
returns-clause-word c = (finds c).first

pub returns-clause-rest : goal.returns-clause-rest
returns-clause-rest c = (finds c).after

pub returns-clause-none : goal.returns-clause-none
returns-clause-none c = (finds c).none
