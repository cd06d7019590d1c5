use Rattle.rds_model.proofs.HelloRun.{hello_is_sound, hello_is_quiet}
use Rattle.rds_model.proofs.CutRun.{cut_is_sound, cut_is_quiet}
use Rattle.rds_model.proofs.TalkRun.{talk_is_sound, talk_is_quiet}
use Rattle.rds_model.proofs.WrongedEnd.{wronged_is_whole}
use Rattle.rds_model.proofs.laws.examples.Goals as goal

pub returns-clause-hello : goal.returns-clause-hello
returns-clause-hello c map long bytes = hello_is_sound map long bytes

pub returns-clause-hello_quiet : goal.returns-clause-hello_quiet
returns-clause-hello_quiet c map = hello_is_quiet map

pub returns-clause-cut : goal.returns-clause-cut
returns-clause-cut c map long bytes = cut_is_sound map long bytes

pub returns-clause-cut_quiet : goal.returns-clause-cut_quiet
returns-clause-cut_quiet c map = cut_is_quiet map

pub returns-clause-talk : goal.returns-clause-talk
returns-clause-talk c map long bytes = talk_is_sound map long bytes

pub returns-clause-talk_quiet : goal.returns-clause-talk_quiet
returns-clause-talk_quiet c map = talk_is_quiet map

pub returns-clause-wronged : goal.returns-clause-wronged
returns-clause-wronged c = wronged_is_whole
