-- the last channel is served beside those before it
use Rattle.std.proofs.Common.{◌++◌, ◌∷◌, [], sym, ap, ◌∙◌, inl, inr}
use Rattle.std.proofs.lemmas.List.Elements.{All-push, All-same}
use Rattle.workers.specs.Buffers.{HasPlaces}
use Rattle.workers.proofs.Leaving.{broke_with, left_with}
use Rattle.workers.proofs.Serving.{popped_last, served_with}
use Rattle.workers.proofs.running.+serve_each.Goals as goal

pub returns-clause-served : goal.returns-clause-served
returns-clause-served g t c well =
    let channel = g.C.Channel in
    let last = popped_last c.args.workers.channels.items c.pop.new.self.items c.pop.result c.in-Some.channel
    c.pop.ensures.items c.in-Some.is
    ∙ ap (λ one. c.pop.new.self.items ++ one ∷ []) {x = c.in-Some.channel} (sym c.start-running.ensures.channel) in
    let both = c.and.ensures.well well in
    served_with channel.takes channel.posts channel.reports channel.reported g.N.Opening.turns _ _ _ _ _ _ _ _ _ _
    last c.and.ensures.channels c.and.ensures.receipts both.1 c.join.ensures.worked
    (c.serve_each-joined.ensures.served both.0)

pub returns-clause-left : goal.returns-clause-left
returns-clause-left g t c =
    let channel = g.C.Channel in
    let last = popped_last c.args.workers.channels.items c.pop.new.self.items c.pop.result c.in-Some.channel
    c.pop.ensures.items c.in-Some.is
    ∙ ap (λ one. c.pop.new.self.items ++ one ∷ []) {x = c.in-Some.channel} (sym c.start-running.ensures.channel) in
    left_with channel.takes channel.posts channel.reports channel.reported g.N.Opening.turns _ _ _ _ _ _ _ _
    last c.and.ensures.channels c.join.ensures.worked c.serve_each-joined.ensures.left

pub returns-clause-broken : goal.returns-clause-broken
returns-clause-broken g t c broke =
    let channel = g.C.Channel in
    let last = popped_last c.args.workers.channels.items c.pop.new.self.items c.pop.result c.in-Some.channel
    c.pop.ensures.items c.in-Some.is
    ∙ ap (λ one. c.pop.new.self.items ++ one ∷ []) {x = c.in-Some.channel} (sym c.start-running.ensures.channel) in
    broke_with channel.takes channel.posts channel.reports channel.reported g.N.Opening.turns _ _ _ _ _ _ _ _
    last c.and.ensures.channels c.join.ensures.worked c.serve_each-joined.ensures.left
    (elim (c.and.ensures.broken broke) [
      | inl others ↦ inl (c.serve_each-joined.ensures.broken others)
      | inr its ↦ inr its
    ])

pub returns-clause-places : goal.returns-clause-places
returns-clause-places g t c =
    All-same (HasPlaces g.N.Opening.turns) _ _ c.and.ensures.receipts
    (All-push (HasPlaces g.N.Opening.turns) _ _ c.serve_each-joined.ensures.places c.join.ensures.places)
