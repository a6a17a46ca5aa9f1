pub mod LeastWalk
pub mod LeastSteps
pub mod LeastMoments
pub mod LeastQueues
pub mod LeastReplies
