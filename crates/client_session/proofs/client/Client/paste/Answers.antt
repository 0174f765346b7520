use Rattle.client_session.proofs.PasteLaws.{pastes}
use Rattle.client_session.proofs.client.Client.paste.Goals as goal

pub returns : goal.returns
returns g c = pastes _ _ _ _ _ c.in-Ok.ensures.spec c.draw_pasted.ensures
