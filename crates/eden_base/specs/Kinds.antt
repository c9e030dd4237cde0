-- The kinds of files that requests make. (`linux/fuse.h`: FUSE_CREATE and FUSE_MKDIR; a symbolic link is made by none.)
use Rattle.eden_base.specs.declared.attr.Kind.{Kind}
use Rattle.eden_base.specs.declared.attr.Kind.TheVariants as kind
use Rattle.eden_base.specs.declared.attr.MadeKind.{MadeKind}
use Rattle.eden_base.specs.declared.attr.MadeKind.TheVariants as made

-- the kind of a file that was made
abbrev pub kind_made : MadeKind → Kind
kind_made made.File = kind.File
kind_made made.Dir = kind.Dir
