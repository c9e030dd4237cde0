use Rattle.map_image.proofs.Perms.{perm_read}
use Rattle.map_image.proofs.member_reader.perm_at.Goals as goal

pub returns-in-Some : goal.returns-in-Some
returns-in-Some c = perm_read c.args.bytes.now c.in_ok-bits.bits c.in_ok-bits.rest.now c.in-Some.perm c.in_ok-bits.ensures.field c.in-Some.ensures.perm
