use Rattle.std.proofs.Common.{◌≡◌, drop}
use Rattle.git_objects.specs.Desk.{next_of}
use Rattle.git_objects.proofs.desk.Desk.next_want.Given as goal

abbrev pub invariant-loop-want : goal.invariant-loop-want
invariant-loop-want l =
    next_of l.self.cache.bound l.self.cache.kept.entries l.self.under_way.objects.items l.is_large
    (drop l.want-index l.self.wants.items)
    ≡ next_of l.self.cache.bound l.self.cache.kept.entries l.self.under_way.objects.items l.is_large l.self.wants.items
