use Rattle.daemon_desk.proofs.HandoverLaws.{frames_are_read, handed_has_frame, handed_is_short, parts_have_frames, read_can_be_taken, read_knows}
use Rattle.daemon_desk.proofs.laws.frames_keep_what_is_known.Goals as goal

pub returns : goal.returns
returns c = record {
  short = handed_is_short;
  frame = handed_has_frame;
  parts = parts_have_frames;
  read = frames_are_read;
  keeps = read_knows;
  taken = read_can_be_taken;
}
