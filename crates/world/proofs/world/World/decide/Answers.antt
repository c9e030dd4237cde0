-- Each event by its own call.
use Rattle.std.proofs.Common.{◌≡◌, List, [], ◌∷◌, ◌++◌, sym, subst, refl, ap, ◌∙◌}
use Rattle.world.specs.State.{State}
use Rattle.world.specs.Step.{Once, Step, parts_of}
use Rattle.world.specs.declared.event.Event.{Event}
use Rattle.world.specs.declared.event.Event.TheVariants.{Start, Mount, Issue, Take, Work, Post, Deliver, Hear, Drained, GiveUp, Claim, Crash}
use Rattle.daemon.specs.declared.happened.Happened.{Happened}
use Rattle.world.proofs.Carrying.{Step-alone}
use Rattle.world.proofs.world.World.decide.Goals as goal

-- an event that is no `do`, told to an outcome in which nothing stood
alone : (old : State) (event is : Event) (told : Happened) (before after : List Happened) (new : State) → parts_of old.broker.seat is ≡ is ∷ [] →
    event ≡ is → Once old is told new → before ≡ [] → after ≡ before ++ told ∷ [] → Step old event after new
alone old event is told before after new parts same once nothing tells =
    subst (λ (e : Event). Step old e after new) (sym same)
    (Step-alone old is told after new parts once (tells ∙ ap (λ (os : List Happened). os ++ told ∷ []) nothing))

pub returns-in-Start : goal.returns-in-Start
returns-in-Start c = record {
  step = alone c.args.self.now c.args.event.now (Start c.in-Start.versions) c.start.result c.args.outcome.now c.tell.new.self c.start.new.self refl c.in-Start.is c.start.ensures.once c.requires.nothing c.tell.ensures.told;
}

pub returns-in-Mount : goal.returns-in-Mount
returns-in-Mount c = record {
  step = alone c.args.self.now c.args.event.now (Mount c.in-Mount.daemon) c.mount.result c.args.outcome.now c.tell-in-Mount.new.self c.mount.new.self refl c.in-Mount.is c.mount.ensures.once c.requires.nothing c.tell-in-Mount.ensures.told;
}

pub returns-in-Issue : goal.returns-in-Issue
returns-in-Issue c = record {
  step = alone c.args.self.now c.args.event.now (Issue c.in-Issue.request) c.issue.result c.args.outcome.now c.tell-in-Issue.new.self c.issue.new.self refl c.in-Issue.is c.issue.ensures.once c.requires.nothing c.tell-in-Issue.ensures.told;
}

pub returns-in-Take : goal.returns-in-Take
returns-in-Take c = record {
  step = alone c.args.self.now c.args.event.now (Take c.in-Take.daemon) c.take.result c.args.outcome.now c.tell-in-Take.new.self c.take.new.self refl c.in-Take.is c.take.ensures.once c.requires.nothing c.tell-in-Take.ensures.told;
}

pub returns-in-Work : goal.returns-in-Work
returns-in-Work c = record {
  step = alone c.args.self.now c.args.event.now (Work c.in-Work.daemon c.in-Work.position c.in-Work.fails) c.work.result c.args.outcome.now c.tell-in-Work.new.self c.work.new.self refl c.in-Work.is c.work.ensures.once c.requires.nothing c.tell-in-Work.ensures.told;
}

pub returns-in-Post : goal.returns-in-Post
returns-in-Post c = record {
  step = alone c.args.self.now c.args.event.now (Post c.in-Post.daemon c.in-Post.position) c.post.result c.args.outcome.now c.tell-in-Post.new.self c.post.new.self refl c.in-Post.is c.post.ensures.once c.requires.nothing c.tell-in-Post.ensures.told;
}

pub returns-in-Deliver : goal.returns-in-Deliver
returns-in-Deliver c = record {
  step = alone c.args.self.now c.args.event.now Deliver c.deliver.result c.args.outcome.now c.tell-in-Deliver.new.self c.deliver.new.self refl c.in-Deliver.is c.deliver.ensures.once c.requires.nothing c.tell-in-Deliver.ensures.told;
}

pub returns-in-Crash : goal.returns-in-Crash
returns-in-Crash c = record {
  step = alone c.args.self.now c.args.event.now (Crash c.in-Crash.daemon) c.crash.result c.args.outcome.now c.tell-in-Crash.new.self c.crash.new.self refl c.in-Crash.is c.crash.ensures.once c.requires.nothing c.tell-in-Crash.ensures.told;
}

pub returns-in-Hear : goal.returns-in-Hear
returns-in-Hear c = record {
  step = alone c.args.self.now c.args.event.now (Hear c.in-Hear.daemon c.in-Hear.position) c.hear.result c.args.outcome.now c.tell-in-Hear.new.self c.hear.new.self refl c.in-Hear.is c.hear.ensures.once c.requires.nothing c.tell-in-Hear.ensures.told;
}

pub returns-in-Drained : goal.returns-in-Drained
returns-in-Drained c = record {
  step = alone c.args.self.now c.args.event.now (Drained c.in-Drained.daemon) c.drained.result c.args.outcome.now c.tell-in-Drained.new.self c.drained.new.self refl c.in-Drained.is c.drained.ensures.once c.requires.nothing c.tell-in-Drained.ensures.told;
}

pub returns-in-GiveUp : goal.returns-in-GiveUp
returns-in-GiveUp c = record {
  step = alone c.args.self.now c.args.event.now (GiveUp c.in-GiveUp.daemon) c.give_up.result c.args.outcome.now c.tell-in-GiveUp.new.self c.give_up.new.self refl c.in-GiveUp.is c.give_up.ensures.once c.requires.nothing c.tell-in-GiveUp.ensures.told;
}

pub returns-in-Claim : goal.returns-in-Claim
returns-in-Claim c = record {
  step = alone c.args.self.now c.args.event.now (Claim c.in-Claim.daemon) c.claim.result c.args.outcome.now c.tell-in-Claim.new.self c.claim.new.self refl c.in-Claim.is c.claim.ensures.once c.requires.nothing c.tell-in-Claim.ensures.told;
}
