-- What was read is taken over, or the daemon is gone.
use Rattle.std.proofs.Common.{◌++◌, List, None, ap, ◌∙◌}
use Rattle.std.proofs.lemmas.Result.{IfOk-weaker}
use Rattle.takeover_core.specs.declared.message.Message.{Message}
use Rattle.daemon.specs.Saying.{TurnState, turned}
use Rattle.daemon.specs.Talking.{TakesData, TakesPart, read_before}
use Rattle.daemon.specs.declared.turn.Reaction.TheVariants.{Says}
use Rattle.daemon.proofs.PartLemmas.{last_lost, last_taken}
use Rattle.daemon.proofs.taking.Restorer.take_last.Goals as goal

pub returns-in-None-clause-taken : goal.returns-in-None-clause-taken
returns-in-None-clause-taken c = λ n last.
    IfOk-weaker c.take_read.result
    (λ (turn : TurnState). TakesData c.args.self.now.manifest.now c.args.self.now.limit c.args.self.now.daemon.now c.in_ok-reader.reader c.fed.new.self c.args.generation turn.reaction (turned c.args.self.now.daemon.now turn))
    (λ (turn : TurnState). TakesPart c.args.self.now.manifest.now c.args.self.now.limit c.args.self.now.daemon.now (read_before c.args.position c.args.self.now.daemon.now ++ c.args.bytes.now) c.args.node c.args.generation c.args.position n turn.reaction (turned c.args.self.now.daemon.now turn))
    (λ turn takes. last_taken c.args.self.now.manifest.now c.args.self.now.limit c.args.self.now.daemon.now (turned c.args.self.now.daemon.now turn) c.args.node c.fed.new.self (read_before c.args.position c.args.self.now.daemon.now ++ c.args.bytes.now) c.in_ok-reader.reader c.args.generation c.args.position n c.in_ok-reader.fits turn.reaction
    c.requires.taking last c.in_ok-reader.ensures.fits c.in-None.ensures.message c.fed.ensures.after c.in_ok-reader.ensures.reads takes)
    c.take_read.ensures.taken

pub returns-in-Some-clause-taken : goal.returns-in-Some-clause-taken
returns-in-Some-clause-taken c = λ n last.
    last_lost c.args.self.now.manifest.now c.args.self.now.limit c.args.self.now.daemon.now c.args.node c.fed.new.self (read_before c.args.position c.args.self.now.daemon.now ++ c.args.bytes.now) c.args.generation c.args.position n c.in_ok-reader.fits c.in-Some.said c.to.result
    c.requires.taking c.in_ok-reader.ensures.fits c.in-Some.ensures.message c.fed.ensures.after
    (c.to.ensures.to ∙ ap (λ (others : List Message). record { node = c.fed.new.self; held = None; reaction = Says c.in-Some.said others }) c.none.ensures.none)
