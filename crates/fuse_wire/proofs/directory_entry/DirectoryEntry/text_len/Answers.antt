use Rattle.std.proofs.Common.{length, sym, ap, ◌∙◌}
use Rattle.fuse_wire.specs.DirectoryEntries.{Dirent, entry_len}
use Rattle.fuse_wire.proofs.DirectoryEntries.{length-entry_text}
use Rattle.fuse_wire.proofs.directory_entry.DirectoryEntry.text_len.Goals as goal

pub returns-clause-len : goal.returns-clause-len
returns-clause-len c =
    c.entry_len.ensures ∙ ap (λ (entry : Dirent). entry_len (length entry.name)) c.self.view_is ∙ sym (length-entry_text c.args.self.now)
