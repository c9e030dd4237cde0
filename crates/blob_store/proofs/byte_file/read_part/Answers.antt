-- a part that was read, with zeros behind the end
use Rattle.std.proofs.Common.{◌≡◌, ◌∙◌, ℕ, List, length, take, take_at, ap, arith}
use Rattle.blob_store.proofs.PartReads.{gives_part}
use Rattle.blob_store.proofs.byte_file.read_part.Goals as goal

pub returns-clause-part : goal.returns-clause-part
returns-clause-part g c =
    let held = c.in_ok-held.held in
    let room = c.fill_at.new.room in
    let has = c.in_ok-held.ensures in
    let len = c.in_ok-resize.ensures.len in
    let same : length room ≡ c.resize.new.self.len = omega (arith, c.fill_at.auto.room, c.as_mut_slice.ensures.len) in
    let all : length room ≡ c.args.len = same ∙ len in
    let fits = has.within in
    gives_part (g.F.ByteFile.contents c.args.file.now) c.args.offset held c.args.len _ room c.truncate.new.self.items
    c.resize-2.new.self.items all (omega (arith, all, fits)) has.holds has.end
    (c.truncate.ensures.items ∙ ap (λ (l : List ℕ). take held l) (take_at room _ c.resize.new.self.len same))
    (omega (arith, same, fits, c.truncate.ensures.len))
    c.in_ok-resize-2.ensures.items
