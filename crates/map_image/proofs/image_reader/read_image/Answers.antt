use Rattle.std.proofs.lemmas.Result.{err_from_is_err_and}
use Rattle.map_image.specs.ImageReading.{image_of_bytes}
use Rattle.map_image.proofs.WholeLaws.{header_refused, told}
use Rattle.map_image.proofs.image_reader.read_image.Goals as goal

pub returns-in_err-_header-clause-gives : goal.returns-in_err-_header-clause-gives
returns-in_err-_header-clause-gives c =
    let p = err_from_is_err_and c.from_residual.result c.from_residual.ensures.1 in
    rw (p.1, p.2) (told (image_of_bytes c.args.bytes.now) c.in_err-_header.field-0.0 (header_refused c.args.bytes.now c.in_err-_header.field-0.0 c.in_err-_header.ensures.exact.1))
