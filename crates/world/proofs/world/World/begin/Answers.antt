-- Who was issued a request, and took.
use Rattle.std.proofs.Common.{[], ◌∷◌, ◌++◌, List, length, set, refl, ap, ◌∙◌, subst, arith}
use Rattle.std.proofs.lemmas.Option.{slice_get_read}
use Rattle.daemon.specs.Serving.{IsIndex, HasNone}
use Rattle.daemon.specs.declared.happened.Happened.{Happened}
use Rattle.daemon.specs.declared.happened.Happened.TheVariants.{Refused}
use Rattle.daemon.specs.declared.happened.Refusal.TheVariants.{NoDaemon}
use Rattle.world.specs.State.{State}
use Rattle.world.specs.Beginning.{Begins}
use Rattle.world.proofs.Beginning.{begins-nowhere, begins-by}
use Rattle.world.proofs.Carrying.{begins-unissued}
use Rattle.world.proofs.world.World.begin.Goals as goal

pub returns-then-not-add : goal.returns-then-not-add
returns-then-not-add c = record {
  begins = begins-unissued c.args.self.now c.args.request.now c.args.daemon c.issue.result c.add.new.self c.issue.new.self c.issue.ensures.once c.if-not-add.ensures.made
      (c.add.ensures.added ∙ ap (λ (os : List Happened). os ++ c.issue.result ∷ []) c.requires.nothing);
}

pub returns-in_default : goal.returns-in_default
returns-in_default c =
    let daemons = c.self.inside.daemons.items in
    let none : HasNone (length daemons) c.args.daemon.0 = subst (λ (n : Rattle.std.specs.Prelude.ℕ). HasNone n c.args.daemon.0) (c.len.ensures ∙ c.self.inside.daemons.ok.0) c.in_default.ensures.index in
    record {
      begins = begins-nowhere c.args.self.now c.args.request.now c.args.daemon c.issue.result c.tell.new.self c.issue.new.self
          (subst (λ (s : State). HasNone (length s.daemons) c.args.daemon.0) c.self.view_is none) c.issue.ensures.once c.if-not-add.ensures.made
          (c.tell.ensures.told ∙ ap (λ (os : List Happened). os ++ Refused NoDaemon ∷ []) (c.add.ensures.added ∙ ap (λ (os : List Happened). os ++ c.issue.result ∷ []) c.requires.nothing));
    }

pub returns : goal.returns
returns c =
    let old : State = record { manifest = c.self.inside.manifest; limit = c.self.inside.limit; broker = c.self.inside.broker; daemons = c.self.inside.daemons.items; messages = c.self.inside.messages.items } in
    let at : IsIndex (length old.daemons) c.args.daemon.0 c.in-Some.index = record {
      counted = c.in-Some.ensures.index.counted;
      is = c.in-Some.ensures.index.is;
      within = omega (arith, c.in-Some.ensures.index.within, c.len.ensures, c.self.inside.daemons.ok.0);
    } in
    record {
      begins = subst (λ (s : State). Begins s c.args.request.now c.args.daemon c.is_made-is_made.result c.tell_begun.new.self (record old { broker = c.begin-begun.new.broker; daemons = (set old.daemons c.in-Some.index c.begin-begun.new.self) })) c.self.view_is
          (begins-by old c.args.request.now c.args.daemon c.in-Some.index c.index_mut-beginner.result.now c.begin-begun.new.self c.begin-begun.new.broker at
          (slice_get_read old.daemons (length old.daemons) c.in-Some.index c.index_mut-beginner.result.now refl at.within c.index_mut-beginner.ensures.value)
          c.begin-begun.result c.tell_begun.new.self c.is_made-is_made.result c.begin-begun.ensures.begins c.tell_begun.ensures.told c.is_made-is_made.ensures.made);
    }
