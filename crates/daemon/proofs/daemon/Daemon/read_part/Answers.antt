-- A part is read after the parts before.
use Rattle.std.proofs.Common.{ℕ, List, ◌++◌, Some, sym, ap, ◌∙◌}
use Rattle.std.specs.Prelude.{is_none}
use Rattle.map_image.specs.Feeding.{standing_fault}
use Rattle.takeover_core.specs.Phases.{is_taking}
use Rattle.daemon.specs.Talking.{read_before}
use Rattle.daemon.proofs.PartLemmas.{part_brought, phase_brought, reads_so}
use Rattle.daemon.proofs.daemon.Daemon.read_part.Goals as goal

pub fed-said-requires : goal.fed-said-requires
fed-said-requires c = record { taking = ap is_taking (phase_brought c.args.self.now c.args.message.now c.args.node c.requires.part) }

pub returns-clause-hears : goal.returns-clause-hears
returns-clause-hears c = λ manifest limit.
    reads_so manifest limit c.args.self.now c.turn_to.new.self c.args.message.now c.in-Taking.session c.in-Taking.generation c.in-Taking.version c.in-Taking.position c.in-Taking.count c.in_ok-fits.fits c.saying.result (record {
      read = c.read.new.self;
      node = c.args.node;
      fed = c.fed-said.new.self;
      told = c.fed-said.result;
      brings = c.requires.part;
      at = sym c.phase.ensures.phase ∙ c.in-Taking.is;
      read_is = c.in_ok-fits.ensures.reads ∙ ap (λ (bytes : List ℕ). record c.args.self.now { reading = Some (read_before c.in-Taking.position c.args.self.now ++ bytes) }) c.bytes_of.ensures.bytes;
      fits_is = c.in_ok-fits.ensures.fits ∙ ap (λ (bytes : List ℕ). is_none (standing_fault (read_before c.in-Taking.position c.args.self.now ++ bytes))) c.bytes_of.ensures.bytes;
      told_is = c.fed-said.ensures.message;
      fed_is = c.fed-said.ensures.after;
      new_is = c.turn_to.ensures.turns;
      reaction_is = c.saying.ensures.of;
    })

pub unreachable-requires : goal.unreachable-requires
unreachable-requires c =
    let part = part_brought c.args.self.now c.args.message.now c.args.node c.requires.part in
    c.in_default.not-Taking part.session part.generation part.version part.position part.count (c.phase.ensures.phase ∙ phase_brought c.args.self.now c.args.message.now c.args.node c.requires.part)
