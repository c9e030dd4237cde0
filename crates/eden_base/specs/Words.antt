-- The words that texts have for the values of enums.
use Rattle.std.specs.Prelude.{ℕ, List, codes}
use Rattle.eden_base.specs.declared.attr.Kind.{Kind}
use Rattle.eden_base.specs.declared.attr.Kind.TheVariants.{File, Dir, Link}
use Rattle.eden_base.specs.declared.errno.Errno.{Errno}
use Rattle.eden_base.specs.declared.errno.Errno.TheVariants.{ENOENT, EIO, ENOMEM, EEXIST, ENOTDIR, EISDIR, EINVAL, ENOSPC, ENAMETOOLONG, ENOSYS, ENOTEMPTY, EOVERFLOW, ESTALE}

-- an error number's name in `errno.h`
abbrev pub errno_name : Errno → List ℕ
errno_name ENOENT = codes "ENOENT"
errno_name EIO = codes "EIO"
errno_name ENOMEM = codes "ENOMEM"
errno_name EEXIST = codes "EEXIST"
errno_name ENOTDIR = codes "ENOTDIR"
errno_name EISDIR = codes "EISDIR"
errno_name EINVAL = codes "EINVAL"
errno_name ENOSPC = codes "ENOSPC"
errno_name ENAMETOOLONG = codes "ENAMETOOLONG"
errno_name ENOSYS = codes "ENOSYS"
errno_name ENOTEMPTY = codes "ENOTEMPTY"
errno_name EOVERFLOW = codes "EOVERFLOW"
errno_name ESTALE = codes "ESTALE"

-- the word for a kind of file, in manifests and printed lines
abbrev pub kind_name : Kind → List ℕ
kind_name File = codes "file"
kind_name Dir = codes "dir"
kind_name Link = codes "link"
