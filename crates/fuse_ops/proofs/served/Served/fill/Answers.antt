-- What is listed so far, and why no more follows.
use Rattle.std.proofs.Common.{◌≡◌, ℕ, true, false, refl, sym, ap, subst}
use Rattle.fuse_wire.specs.DirectoryEntries.{Dirent}
use Rattle.fuse_ops.proofs.Filling.{Filling, filling-more, filling-end, filling-full}
use Rattle.fuse_ops.proofs.served.Served.fill.Goals as goal

pub loop-entry-preserved : goal.loop-entry-preserved
loop-entry-preserved c = subst (λ (n : ℕ). Filling c.args.self.now c.args.dir.file c.args.offset c.args.listing.room n c.push.new.self) (sym (ap (λ (e : Dirent). e.next) c.entry.view_is))
    (filling-more c.args.self.now c.args.dir.file c.args.offset c.args.listing.room c.loop-entry.from c.loop-entry.listing c.push.new.self c.in-Some.entry c.loop-entry.invariant c.in-Some.ensures.next
    (c.if-not-push.ensures.fits.0 refl) (c.push.ensures.pushed c.if-not-push.false) c.push.ensures.room (λ entries text. c.push.ensures.entries entries text c.if-not-push.false))

pub returns-then-not-push-clause-filled : goal.returns-then-not-push-clause-filled
returns-then-not-push-clause-filled c =
    filling-full c.args.self.now c.args.dir.file c.args.offset c.args.listing.room c.loop-entry.from c.loop-entry.listing c.push.new.self c.in-Some.entry c.loop-entry.invariant c.in-Some.ensures.next
    (λ le. let both : false ≡ true = c.if-not-push.ensures.fits.1 le in let none : ⊥ = cc in none) (c.push.ensures.refused c.if-not-push.true) c.push.ensures.room

pub returns-in_default-clause-filled : goal.returns-in_default-clause-filled
returns-in_default-clause-filled c =
    filling-end c.args.self.now c.args.dir.file c.args.offset c.args.listing.room c.loop-entry.from c.loop-entry.listing c.loop-entry.invariant c.in_default.ensures.next
