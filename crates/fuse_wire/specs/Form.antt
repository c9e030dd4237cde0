-- Which answer belongs to a request of which form (libfuse's `fuse_lowlevel.h` lists the valid replies of each
-- request; `form_of` in Request.antt has its form).
use Rattle.std.specs.Prelude.{Bool, true, false}
use Rattle.fuse_wire.specs.declared.reply.Answer.{Answer}
use Rattle.fuse_wire.specs.declared.reply.Answer.TheVariants.{Entry, Opened, Attrs, Done, Buffer, Extent, Error}
use Rattle.fuse_wire.specs.declared.form.Form.{Form}
use Rattle.fuse_wire.specs.declared.form.Form.TheVariants.{AnEntry, AnOpenEntry, Attributes, NoValue, ABuffer, FileBytes}

-- an answer belongs to a request of a form; an error belongs to every form
abbrev pub belongs : Form → Answer → Bool
belongs AnEntry (Entry number attr) = true
belongs AnOpenEntry (Opened number attr) = true
belongs Attributes (Attrs number attr) = true
belongs NoValue Done = true
belongs ABuffer (Buffer bytes) = true
belongs FileBytes (Buffer bytes) = true
belongs FileBytes (Extent extent) = true
belongs form (Error errno) = true
belongs form answer = false
