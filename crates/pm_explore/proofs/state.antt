mod Lists
mod FieldsAlike
mod CommandAlike
mod PurposeAlike
mod CallAlike
mod IdleStageAlike
mod SuspendStageAlike
mod ResumeStageAlike
mod HelperStageAlike
mod ControlStageAlike
mod AwaitAlike
mod StageAlike
mod ViewsAlike
pub mod SnapshotAlike
